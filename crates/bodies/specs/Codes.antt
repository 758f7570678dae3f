-- Bytes that stand for something.
use Rattle.std.specs.Prelude.{◌≡◌, ℕ, Result, MatchResult, ◌≢◌}
use Rattle.bodies.specs.declared.code.UnknownCode.{UnknownCode}

-- a byte is read as what it stands for, and refused where it stands for nothing
abbrev pub Decodes : {K : Type 0} → (K → ℕ) → ℕ → Result K UnknownCode → Type 0
Decodes {K = K} code byte r = MatchResult r (λ k. code k ≡ byte) (λ _. (k : K) → code k ≢ byte)
