-- A take of no file leaves the coordinator as it was.
use Rattle.relkvanu.proofs.Imports.{◌≡◌, ℕ, zero, suc, not, eqb, List, [], ◌++◌, take, refl, sym, ap, ◌∙◌, append-nil, Option, Some, None, drop, list_any, Take, Done, Refused, Refusal}
use Rattle.relkvanu.proofs.Imports.{filter-all, refusal, State, Stepped, effect, step, take_files, unless_refused, Plain, event_step, Make, Machine, FencedStepped, after_call, core_in}
use Rattle.relkvanu.proofs.Imports.{fenced_step_by, layer}
use Rattle.ckpt_terms.specs.declared.machine.Machine.TheVariants as machine
use Rattle.ckpt_terms.specs.Fencing.{Fenced}

drop_none : (n : ℕ) → ◌≡◌ {A = List ℕ} (drop n []) []
drop_none zero = refl
drop_none (suc n) = refl

take_none : (n : ℕ) → ◌≡◌ {A = List ℕ} (take n []) []
take_none zero = refl
take_none (suc n) = refl

abbrev with_outbox : State → List ℕ → List ℕ → State
with_outbox m waiting taken = record m { waiting = waiting; taken = taken }

takes_none : (m : State) (most : ℕ) → m.waiting ≡ [] → (take_files m most).0 ≡ m
unfolding take_files
takes_none m most none =
    ap (λ (files : List ℕ). with_outbox m (drop most files) (m.taken ++ take most files)) none
    ∙ ap (λ (files : List ℕ). with_outbox m files (m.taken ++ take most [])) (drop_none most)
    ∙ ap (λ (files : List ℕ). with_outbox m [] (m.taken ++ files)) (take_none most)
    ∙ ap (λ (files : List ℕ). with_outbox m [] files) (append-nil m.taken)
    ∙ ap (λ (files : List ℕ). with_outbox m files m.taken) (sym none)

core_stays : (m : State) (most : ℕ) → m.waiting ≡ [] → (step m (Take most)).0 ≡ m
unfolding step effect
core_stays m most none = by_refusal (refusal m (Take most))
  where
    by_refusal : (why : Option Refusal) → (unless_refused m (Take most) why).0 ≡ m
    by_refusal (Some why) = refl
    by_refusal None = takes_none m most none

layer_stays : (m : Fenced) (most : ℕ) (s : Stepped) → s.0 ≡ m.core → after_call m (Take most) s ≡ m
layer_stays m most (core, Done reply) same =
    ap (λ (k : State). after_call m (Take most) (k, Done reply)) same
    ∙ ap (λ (names : List ℕ). layer m.core m.term m.next_name names) (filter-all (λ f. not (list_any (λ g. eqb f g) [])) m.unspent (λ _ _. refl))
layer_stays m most (core, Refused why) same = ap (λ (k : State). after_call m (Take most) (k, Refused why)) same

pub idle_take : (k : Machine) (most : ℕ) → (core_in k).waiting ≡ [] → event_step k (Plain (Take most)) ≡ k
idle_take (machine.Plain m) most none = ap (λ (n : State). machine.Plain n) (core_stays m most none)
idle_take (machine.Fenced m) most none =
    ap (λ (n : Fenced). machine.Fenced n)
    (fenced_step_by m (Make 0 (Take most)) (λ (x : FencedStepped). x.0 ≡ m) (λ why. refl) (λ _. layer_stays m most (step m.core (Take most)) (core_stays m.core most none)))
