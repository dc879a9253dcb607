-- Answers the goals of `test_name`.
use Rattle.ckpt_terms.proofs.Imports.{◌≡◌, ℕ, Bool, true, false, ◌||◌, eqb, ltb, ◌≤◌, ◌^◌, sym, ap, ◌∙◌, Some, None, cond, le-ltb, ne_eqb, or_from, settled, state_in, State, BadName}
use Rattle.ckpt_terms.proofs.Imports.{NameInUse, fence_fault, has_known_from}
use Rattle.ckpt_terms.proofs.KnownFiles.{settled_from}
use Rattle.ckpt_terms.specs.declared.machine.Machine.TheVariants as machine
use Rattle.ckpt_terms.proofs.machine.test_name.Goals as goal

-- of a first name within its limits, the test of the files decides
told : (m : State) (first : ℕ) (b : Bool) → (first ≡ 0 → ⊥) → first ≤ 2 ^ 62 → has_known_from m first ≡ b → cond b (Some NameInUse) None ≡ fence_fault (machine.Plain m) first
told m first b some fits is =
    let bad : (eqb first 0 || ltb (2 ^ 62) first) ≡ false = or_from (eqb first 0) (ltb (2 ^ 62) first) (ne_eqb first 0 some) (le-ltb (2 ^ 62) first fits) in
    sym (ap (λ (c : Bool). cond c (Some BadName) (cond (has_known_from m first) (Some NameInUse) None)) bad ∙ ap (λ (c : Bool). cond c (Some NameInUse) None) is)

-- the image has the files of the coordinator
seen : (m n : State) (first : ℕ) (b : Bool) → n ≡ settled m → b ≡ has_known_from n first → has_known_from m first ≡ b
seen m n first b is told = sym (told ∙ ap (λ (s : State). has_known_from s first) is ∙ settled_from m first)

pub returns-then-has_known_from-clause-fault : goal.returns-then-has_known_from-clause-fault
returns-then-has_known_from-clause-fault c = λ _.
    told c.args.core.now c.args.first_name true c.if-first_name-eq0.false c.if-first_name-gt-NAMES_END.false
    (seen c.args.core.now (state_in c.in-Ok.image) c.args.first_name true c.in-Ok.ensures.value (sym c.if-has_known_from.true ∙ c.has_known_from.ensures))

pub returns-clause-fault : goal.returns-clause-fault
returns-clause-fault c = λ _.
    told c.args.core.now c.args.first_name false c.if-first_name-eq0.false c.if-first_name-gt-NAMES_END.false
    (seen c.args.core.now (state_in c.in-Ok.image) c.args.first_name false c.in-Ok.ensures.value (sym c.if-has_known_from.false ∙ c.has_known_from.ensures))
