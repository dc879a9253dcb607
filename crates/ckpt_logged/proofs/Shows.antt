-- A show leaves the coordinator as it was.
use Rattle.ckpt_logged.proofs.Names.{◌≡◌, ℕ, List, refl, sym, ap, ◌∙◌, subst, Option, Result, Ok, Err, IfOk, OnErr, AllocError, Answer, show_stays, State, Stepped, step, Machine, Issued}
use Rattle.ckpt_logged.proofs.Names.{core_in, machine_of, names_in, Chronicle, IsChronicle, Event}
use Rattle.ckpt_ids.specs.declared.call.Call.TheVariants as call
use Rattle.ckpt_terms.specs.declared.machine.Machine.TheVariants.{Plain, Fenced}

pub whole : (k : Machine) → k ≡ machine_of (core_in k) (names_in k)
whole (Plain m) = refl
whole (Fenced m) = refl

-- two coordinators with one state and the same names
pub same_machine : (k n : Machine) → core_in k ≡ core_in n → names_in k ≡ names_in n → k ≡ n
same_machine k n core names =
    whole k ∙ ap (λ (m : State). machine_of m (names_in k)) core ∙ ap (λ (it : Option Issued). machine_of (core_in n) it) names ∙ sym (whole n)

-- whatever a show answers
pub shown : (old new : Machine) (id : ℕ) (result : Result Answer AllocError)
    → IfOk result (λ answer. step (core_in old) (call.Show id) ≡ (core_in new, answer)) → OnErr result (new ≡ old) → names_in new ≡ names_in old → new ≡ old
shown old new id (Ok answer) done unchanged names =
    same_machine new old (sym (ap (λ (s : Stepped). s.0) done) ∙ show_stays (core_in old) id) names
shown old new id (Err why) done unchanged names = unchanged

pub still : (now new begin : Machine) (events : List Event) → IsChronicle (record { now = now; begin = begin; events = events }) → new ≡ now
    → IsChronicle (record { now = new; begin = begin; events = events })
still now new begin events its same = subst (λ (m : Machine). IsChronicle (record { now = m; begin = begin; events = events })) (sym same) its

pub still_is : (now new begin : Machine) (events : List Event) (k : Chronicle) → record { now = now; begin = begin; events = events } ≡ k → new ≡ now
    → record { now = new; begin = begin; events = events } ≡ k
still_is now new begin events k is same = subst (λ (m : Machine). record { now = m; begin = begin; events = events } ≡ k) (sym same) is
