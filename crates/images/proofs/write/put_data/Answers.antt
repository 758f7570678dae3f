use Rattle.std.proofs.Common.{rules, ◌≡◌, ◌+◌, length, ◌<◌, true, Some, arith, sym, ap, ◌∙◌}
use Rattle.operators.proofs.Laying.{laid_exact}
use Rattle.images.specs.Contents.{Contents, front_of, contents_of, are_sound}
use Rattle.images.proofs.Data.{in_front, length_of_data, sound_from}
use Rattle.images.proofs.write.put_data.Goals as goal

pub split_at_mut-held-requires : goal.split_at_mut-held-requires
split_at_mut-held-requires g c =
    let got : c.held_length.result ≡ Some c.in_ok-held_length.held_length = search rules in
    let o = rw got at c.held_length.ensures in
    let a = c.split_at_mut-front.ensures.back_len in
    let b = c.split_at_mut-state.ensures.back_len in
    omega (arith, o.2, o.3)

pub returns : goal.returns
returns g c =
    let size = g.P.Out.Body.size in
    let written = g.P.Operator.written (g.P.Operator.state c.args.operator.now) in
    let all : Contents = contents_of size c.args.records_run written c.args.results.now c.args.table.now in
    let s = c.state_length-state_length.result in
    let n = c.in_ok-held_length.held_length in
    let got : c.held_length.result ≡ Some n = search rules in
    let o = rw got at c.held_length.ensures in
    let bounded : g.P.Operator.longest < 4294967295 = omega (arith, c.longest.ensures, c.if-longest.false) in
    let long : s ≡ length written = c.state_length-state_length.ensures bounded in
    let put : c.put_held.result ≡ Some tt = search rules in
    let held = rw put at c.put_held.ensures in
    let state : c.write_state.new.out ≡ written = laid_exact written _ c.write_state.new.out c.write_state.result c.write_state.ensures.laid (c.write_state.ensures.refused bounded) (c.split_at_mut-state.ensures.front_len ∙ long) in
    let few : length all.held ≡ n = sym (ap length held.0) ∙ held.1 ∙ c.split_at_mut-held.ensures.front_len in
    let sound : are_sound size all.counts (length written) ≡ true = sym (ap (are_sound size all.counts) long) ∙ o.0 in
    let front = c.put.ensures in
    let end : 16 + s + n ≡ 16 + length all.state + length all.held = omega arith in
    (bounded, sound_from size all sound (few ∙ o.1), end ∙ sym (length_of_data all), in_front all _ _ _ _ (16 + s + n) (front ∙ ap (front_of all.counts) long) state held.0 end)
