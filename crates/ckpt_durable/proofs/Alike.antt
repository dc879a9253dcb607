-- Coordinators that differ in the order of the fetched files alone: they stay so, and what is said of one holds of the other.
use Rattle.ckpt_durable.proofs.Names.{◌≡◌, ℕ, Bool, not, ◌&&◌, ◌||◌, eqb, ltb, [], ◌∷◌, refl, sym, ap, ◌∙◌, Option, Some, None, cond, is_present, uses, State, AreAlike, settled, go_on_alike}
use Rattle.ckpt_durable.proofs.Names.{settled_alike, FencedCall, Make, NAMES_END, FenceFault, BadName, NameInUse, Machine, Fenced, is_unspent, may_be_deleted, core_in, fence_fault}
use Rattle.ckpt_durable.proofs.Names.{has_known_from, AreFencedAlike, fenced_settled, machine_settled, settled_from, settled_outbox, fenced_settled_alike, goes_on_alike, layer, Fence, Named}
use Rattle.ckpt_durable.proofs.Names.{Plain, event_step, named_from}
use Rattle.ckpt_terms.specs.declared.machine.Machine.TheVariants as machine
use Rattle.ckpt_logged.specs.Events.{Event}

-- the two differ in that order alone
abbrev pub AreMachinesAlike : Machine → Machine → Type 0
AreMachinesAlike m n = machine_settled m ≡ machine_settled n

abbrev fenced_or : Fenced → Machine → Fenced
fenced_or n (machine.Plain m) = n
fenced_or n (machine.Fenced m) = m

-- the two with names
pub alike_named : (m n : Fenced) → AreMachinesAlike (machine.Fenced m) (machine.Fenced n) → AreFencedAlike m n
alike_named m n e = ap (fenced_or m) e

calls_alike : (m n : Fenced) (call : FencedCall) → AreMachinesAlike (machine.Fenced m) (machine.Fenced n)
    → AreMachinesAlike (event_step (machine.Fenced m) (Named call)) (event_step (machine.Fenced n) (Named call))
calls_alike m n call e = ap (λ (k : Fenced). machine.Fenced k) (goes_on_alike m n (call ∷ []) (alike_named m n e)).state

-- names that are given to one may be given to the other
fence_same : (m n : State) (first : ℕ) → AreAlike m n → fence_fault (machine.Plain m) first ≡ fence_fault (machine.Plain n) first
fence_same m n first e =
    let known : has_known_from m first ≡ has_known_from n first = sym (settled_from m first) ∙ ap (λ (k : State). has_known_from k first) e ∙ settled_from n first in
    ap (λ (b : Bool). cond (eqb first 0 || ltb NAMES_END first) (Some BadName) (cond b (Some NameInUse) None)) known

fence_alike : (m n : State) (first : ℕ) (fault : Option FenceFault) → AreAlike m n
    → AreMachinesAlike (named_from (machine.Plain m) first fault) (named_from (machine.Plain n) first fault)
fence_alike m n first None e = ap (λ (k : State). machine.Fenced (layer k 1 first [])) e
fence_alike m n first (Some why) e = ap (λ (k : State). machine.Plain k) e

pub step_alike : (m n : Machine) (event : Event) → AreMachinesAlike m n → AreMachinesAlike (event_step m event) (event_step n event)
step_alike (machine.Plain m) (machine.Plain n) (Plain call) e = ap (λ (k : State). machine.Plain k) (go_on_alike m n (call ∷ []) (ap core_in e)).state
step_alike (machine.Plain m) (machine.Plain n) (Named call) e = e
step_alike (machine.Plain m) (machine.Plain n) (Fence first) e =
    let core : AreAlike m n = ap core_in e in
    ap (λ (fault : Option FenceFault). machine_settled (named_from (machine.Plain m) first fault)) (fence_same m n first core)
    ∙ fence_alike m n first (fence_fault (machine.Plain n) first) core
step_alike (machine.Fenced m) (machine.Fenced n) (Plain call) e = calls_alike m n (Make 0 call) e
step_alike (machine.Fenced m) (machine.Fenced n) (Named call) e = calls_alike m n call e
step_alike (machine.Fenced m) (machine.Fenced n) (Fence first) e = e
step_alike (machine.Plain m) (machine.Fenced n) event e = absurd cc
step_alike (machine.Fenced m) (machine.Plain n) event e = absurd cc

-- an image has the state, but for that order
pub image_alike : (m : Machine) → AreMachinesAlike (machine_settled m) m
image_alike (machine.Plain m) = ap (λ (k : State). machine.Plain k) (sym (settled_alike m))
image_alike (machine.Fenced m) = ap (λ (k : Fenced). machine.Fenced k) (sym (fenced_settled_alike m))

-- the records are the same
core_settled : (m : Machine) → core_in (machine_settled m) ≡ settled (core_in m)
core_settled (machine.Plain m) = refl
core_settled (machine.Fenced m) = refl

pub same_core : (m n : Machine) → AreMachinesAlike m n → AreAlike (core_in m) (core_in n)
same_core m n e = sym (core_settled m) ∙ ap core_in e ∙ core_settled n

pub same_records : (m n : Machine) → AreMachinesAlike m n → (core_in m).records ≡ (core_in n).records
same_records m n e = ap (λ (k : State). k.records) (same_core m n e)

-- and so are the files that may be deleted
pub same_deletable : (m n : Fenced) (f : ℕ) → AreFencedAlike m n → may_be_deleted m f ≡ may_be_deleted n f
same_deletable m n f e =
    sym (deletable_settled m f) ∙ ap (λ (k : Fenced). may_be_deleted k f) e ∙ deletable_settled n f
  where
    deletable_settled : (m : Fenced) (f : ℕ) → may_be_deleted (fenced_settled m) f ≡ may_be_deleted m f
    deletable_settled m f =
        ap (λ (out : Bool). (ltb f m.next_name && not (is_unspent m f) && not (is_present (uses m.core.records) f || out)) || out) (settled_outbox m.core f)
