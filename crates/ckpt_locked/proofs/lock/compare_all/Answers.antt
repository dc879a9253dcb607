-- Answers the goals of `compare_all`.
use Rattle.ckpt_locked.proofs.{All, All-cons, Hand, List, Sat, SeenIn, [], ap, append_assoc, arith, nil_from_length, subst, sym, ◌++◌, ◌∙◌, ◌∷◌, ◌≡◌}
use Rattle.ckpt_locked.proofs.lock.compare_all.Goals as goal

pub loop-pass-preserved : goal.loop-pass-preserved
loop-pass-preserved c =
    let i = c.loop-pass.invariant in
    let pass = c.in-Some.pass in
    let items = c.in-Some.ensures.items in
    let seen = subst (λ (m : Sat). SeenIn m.0.found pass) i.1 c.compare.ensures.seen in (
      c.compare.ensures.same.0 ∙ i.0,
      c.compare.ensures.same.1 ∙ i.1,
      (pass ∷ i.2.0, i.2.1 ∙ (ap (λ (l : List Hand). l ++ i.2.0) items ∙ append_assoc c.pop.new.self.items (pass ∷ []) i.2.0), All-cons (SeenIn c.args.seat.now.me.0.found) pass i.2.0 seen i.2.2),
    )

pub returns : goal.returns
returns c =
    let i = c.loop-pass.invariant in
    let long = c.loop-pass.passes.ok in
    let none = nil_from_length c.loop-pass.passes.items (omega (arith, c.in_default.ensures.cases.0)) in
    let all : c.args.passes.items ≡ i.2.0 = i.2.1 ∙ ap (λ (l : List Hand). l ++ i.2.0) none in
    subst (All (SeenIn c.args.seat.now.me.0.found)) (sym all) i.2.2
