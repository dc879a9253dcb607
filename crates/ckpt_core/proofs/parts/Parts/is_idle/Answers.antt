-- Answers the goals of `Parts::is_idle`.
use Rattle.ckpt_core.proofs.{◌≡◌, eqb, length, sym, ap, ◌∙◌, both_ways, eqb-true, Parts, all_done, not_all_done}
use Rattle.ckpt_core.proofs.parts.Parts.is_idle.Goals as goal

pub returns-in_default-clause-yes : goal.returns-in_default-clause-yes
returns-in_default-clause-yes c = λ yes other r h. all_done c.args.self.now r c.recall_groups.ensures.pending c.recall_groups.ensures.stored (sym c.len.ensures ∙ eqb-true c.len.result 0 yes) h

pub returns-in_default-clause-no : goal.returns-in_default-clause-no
returns-in_default-clause-no c =
    λ no all. let p : Parts = c.args.self.now in let some : length p.pending ≡ 0 → ⊥ = λ (e : length p.pending ≡ 0). both_ways (eqb c.len.result 0) no (ap (λ n. eqb n 0) (c.len.ensures ∙ e)) in
    not_all_done p c.recall_groups.ensures.pending some (all c.in_default.not-Running)
