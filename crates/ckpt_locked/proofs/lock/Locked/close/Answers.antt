-- Answers the goals of `Locked::close`.
use Rattle.ckpt_locked.proofs.{All, GivenBack, Hand, Lock, SeenIn, View, [], all_front, all_last, ap, arith, given_back, subst, sym, ◌∙◌, ◌∷◌, ◌≡◌}
use Rattle.ckpt_locked.proofs.lock.Locked.close.Goals as goal

pub compare_all-requires-clause-others : goal.compare_all-requires-clause-others
compare_all-requires-clause-others g c =
    let items = c.in-Some.ensures.items in
    let Mine = λ (h : Hand). h.lock ≡ c.args.self in
    let all = subst (All Mine) items c.requires.passes in
    let pass = all_last Mine c.pop.new.self.items c.in-Some.pass all in
    let id = c.take-book.ensures.same.0 ∙ c.enter-ticket.ensures.same ∙ (ap (λ (h : Hand). h.lock.table_id) c.pass.view_is ∙ ap (λ (k : Lock). k.table_id) pass) in
    λ k d lt. ap (λ (l : Lock). l.table_id) (all_front Mine c.pop.new.self.items (c.in-Some.pass ∷ []) all k d lt) ∙ sym id

pub returns-clause-all : goal.returns-clause-all
returns-clause-all g c =
    let seats = ap (λ (k : Lock). k.base.seats) c.self.view_is in
    let same = c.self.invariant.1 in
    let enough = c.if-len-self.false in
    let long = c.len.ensures in
    omega arith

pub returns-clause-book : goal.returns-clause-book
returns-clause-book g c =
    let items = c.in-Some.ensures.items in
    let Mine = λ (h : Hand). h.lock ≡ c.args.self in
    let all = subst (All Mine) items c.requires.passes in
    let others = c.pop.new.self.items in
    let seen_in = subst (λ (v : View). All (SeenIn v.found) others) c.take-book.ensures.same.1 c.compare_all.ensures in
    subst (GivenBack c.args.self c.take-book.result) (sym items)
    (given_back c.args.self c.take-book.result others c.in-Some.pass _ c.pass.inside.seat.me _ _ c.pass.view_is c.enter-ticket.ensures.turn c.take-book.ensures.book all seen_in)
