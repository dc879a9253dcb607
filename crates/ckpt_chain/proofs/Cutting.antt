-- A completed record since a sound state: each of its subtasks has cut it.
use Rattle.ckpt_chain.proofs.Names.{◌≡◌, true, List, [], ◌∷◌, ◌++◌, sym, subst, inl, inr, ⊎_elim, Acked, SubtaskId, acknowledges_before, put_ack, IsIn, IsFull, Record, subtasks}
use Rattle.ckpt_chain.proofs.Names.{IsIn-append_cases, IsIn-append_left, IsIn-append_right, IsIn-from_map, IsIn-put_cases, HasCut, Network, global_cut, State, record_of, replay, accepted_by}
use Rattle.ckpt_chain.proofs.Names.{along, IsSound, Machine, core_in, AreEvents, Event, IsWell, calls_in, events_replay, acks_in, put_all, reaches, replay_well, acknowledged}
use Rattle.ckpt_chain.proofs.Names.{AcknowledgesCuts, DoneIsConsistent, acknowledgements_of}
use Rattle.ckpt_terms.specs.declared.machine.Machine.TheVariants as machine

-- the coordinator below the names
pub core_sound : (m : Machine) → IsWell m → IsSound (core_in m)
core_sound (machine.Plain m) i = i
core_sound (machine.Fenced m) i = i.core

-- an acknowledgement that was put into its place is one of those
in_put_all : (a : Acked) (acks more : List Acked) → IsIn a (put_all acks more) → IsIn a (acks ++ more)
in_put_all a acks [] h = IsIn-append_left a acks [] h
in_put_all a acks (x ∷ more) h =
    ⊎_elim
    (λ (k : IsIn a (put_ack x acks)).
    ⊎_elim (λ (e : a ≡ x). IsIn-append_right a acks (x ∷ more) (inl e)) (λ (j : IsIn a acks). IsIn-append_left a acks (x ∷ more) j)
    (IsIn-put_cases acknowledges_before x a acks k))
    (λ (k : IsIn a more). IsIn-append_right a acks (x ∷ more) (inr k))
    (IsIn-append_cases a (put_ack x acks) more (in_put_all a (put_ack x acks) more h))

-- an acknowledgement of a live record was there at the beginning, or was accepted since
pub ack_of_record : (m : Machine) (events : List Event) (r : Record) (a : Acked) → IsWell m → AreEvents events → IsIn r (core_in (events_replay m events)).records → IsIn a r.acks
    → IsIn a (acknowledgements_of r.id m events)
ack_of_record m events r a i are has of =
    let n : State = core_in m in
    let at = reaches m events are in
    let there : IsIn r (replay n (calls_in m events)).records = subst (λ (k : State). IsIn r k.records) at.1 has in
    in_put_all a (acks_in (record_of n r.id)) (along (accepted_by r.id) n (calls_in m events))
    (subst (λ (xs : List Acked). IsIn a xs) (acknowledged n (calls_in m events) (core_sound m i) at.0 r there) of)

-- of what holds of each subtask whose acknowledgement is one of those
pub each-from_done : (P : SubtaskId → Type 0) (m : Machine) (events : List Event) (r : Record) (s : SubtaskId) → IsWell m → AreEvents events
    → IsIn r (core_in (events_replay m events)).records → r.done ≡ true → ((a : Acked) → IsIn a (acknowledgements_of r.id m events) → P a.subtask) → IsIn s (subtasks r.shape) → P s
each-from_done P m events r s i are has done acks member =
    let sound : IsSound (core_in (events_replay m events)) = core_sound (events_replay m events) (replay_well m events are i) in
    let full : IsFull r = (sound.records.each r has).full done in
    let one = IsIn-from_map (λ (a : Acked). a.subtask) s r.acks (subst (λ (ss : List SubtaskId). IsIn s ss) (sym full) member) in
    subst P (sym one.2) (acks one.0 (ack_of_record m events r one.0 i are has one.1))

pub has_cut-from_done : (m : Machine) (events : List Event) (w : Network) (r : Record) (s : SubtaskId) → IsWell m → AreEvents events
    → IsIn r (core_in (events_replay m events)).records → r.done ≡ true → AcknowledgesCuts r.id m events w → IsIn s (subtasks r.shape) → HasCut r.id (w.task s)
has_cut-from_done m events w r = each-from_done (λ (t : SubtaskId). HasCut r.id (w.task t)) m events r

pub consistent : (m : Machine) (events : List Event) (w : Network) → IsWell m → AreEvents events → DoneIsConsistent m events w
consistent m events w i are r has done channels acks =
    (global_cut r.id w (λ c among. let of_it = channels c among in (of_it.1, of_it.2, has_cut-from_done m events w r c.receiver i are has done acks of_it.0))).0
