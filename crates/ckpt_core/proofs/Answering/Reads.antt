-- Calls that read, and those that move a file in the outbox.
use Rattle.ckpt_core.proofs.Names.{Record, count, metadata_of, Queues, Parts, with_pins, grouped, Answers, AreTied, AreSound, IsAccepted, records_in, state_of, refusal, no_record, id_before, State}
use Rattle.ckpt_core.proofs.Names.{record_of, Stepped, effect, take_files, show, step_accepted, row_last, common_steps}
use Rattle.ckpt_core.proofs.Names.{◌≡◌, ℕ, List, [], ◌∷◌, ◌++◌, take, refl, sym, ap, ◌∙◌, arith, Option, Some, None, find, IsSome, option_map, option_or, Metadata, NoSuchRecord, Done, IsInOrder}
use Rattle.ckpt_core.proofs.Records.{GroupLookups.record_of-groups, Grouped.apart-from_in_order, Lookups.has_number}
use Rattle.ckpt_model.specs.Steps.{without}
use Rattle.std.specs.Prelude as prelude
use Rattle.ckpt_ids.specs.declared.call.Call.TheVariants as call
use Rattle.ckpt_ids.specs.declared.reply.Reply.TheVariants as reply
use Rattle.ckpt_store.specs.Storing as storing

-- another outbox with as many places reserved
tied_with : (p : Parts) (outbox : Queues) → AreTied p → outbox.spare ≡ p.outbox.spare → AreTied (record p { outbox = outbox })
tied_with p outbox tied e = grind (arith, common_steps)

pub taken_answers : (p : Parts) (most : ℕ) (outbox : Queues) (handed : List ℕ) → AreSound p → IsAccepted p (call.Take most) →
    outbox ≡ record p.outbox { waiting = prelude.drop most p.outbox.waiting; taken = p.outbox.taken ++ take most p.outbox.waiting } → handed ≡ take most p.outbox.waiting →
    Answers p (record p { outbox = outbox }) (call.Take most) (reply.Taken handed)
unfolding state_of effect take_files
taken_answers p most outbox handed sound accepted is gives = grind (arith, common_steps, step_accepted, tied_with)

pub deleted_answers : (p : Parts) (file : ℕ) (outbox : Queues) → AreSound p → IsAccepted p (call.Deleted file) → outbox ≡ record p.outbox { taken = without file p.outbox.taken } →
    Answers p (record p { outbox = outbox }) (call.Deleted file) (reply.Deleted file)
unfolding state_of effect
deleted_answers p file outbox sound accepted is = grind (arith, common_steps, step_accepted, tied_with)

pub undeleted_answers : (p : Parts) (file : ℕ) (outbox : Queues) → AreSound p → IsAccepted p (call.Undeleted file) →
    outbox ≡ record p.outbox { waiting = p.outbox.waiting ++ file ∷ []; taken = without file p.outbox.taken } → Answers p (record p { outbox = outbox }) (call.Undeleted file) (reply.Undeleted file)
unfolding state_of effect
undeleted_answers p file outbox sound accepted is = grind (arith, common_steps, step_accepted, tied_with)

pub counted_answers : (p : Parts) (file n : ℕ) → AreSound p → IsAccepted p (call.Count file) → n ≡ count p.registry file → Answers p p (call.Count file) (reply.Counted file n)
unfolding state_of effect
counted_answers p file n sound accepted is = grind (arith, common_steps, step_accepted)

-- the metadata of a record
either : (a b : Option Record) → elim a as (λ _. Option Record) [ Some r ↦ Some r | None ↦ b ] ≡ option_or a b
either (Some r) b = refl
either None b = refl

stored_found : (id : ℕ) (s : storing.Stored) → storing.record_of s id ≡ option_or (find (has_number id) s.checkpoints) (find (has_number id) s.savepoints)
stored_found id s = either (find (has_number id) s.checkpoints) (find (has_number id) s.savepoints)

-- a live record is pending or stored
pub record_there : (p : Parts) (id : ℕ) → IsInOrder id_before (records_in p) →
    record_of (state_of p) id ≡ option_or (option_map (with_pins p.registry) (find (has_number id) p.pending)) (storing.record_of p.store id)
unfolding state_of
record_there p id order =
    record_of-groups id p.registry p.pending p.store.checkpoints p.store.savepoints (apart-from_in_order (grouped p.registry p.pending p.store.checkpoints p.store.savepoints) order)
    ∙ ap (option_or (option_map (with_pins p.registry) (find (has_number id) p.pending))) (sym (stored_found id p.store))

-- a pending record is live, with its pins
pub pending_live : (p : Parts) (id : ℕ) (r : Record) → IsInOrder id_before (records_in p) → find (has_number id) p.pending ≡ Some r → record_of (state_of p) id ≡ Some (with_pins p.registry r)
pending_live p id r order there = record_there p id order ∙ ap (λ o. option_or (option_map (with_pins p.registry) o) (storing.record_of p.store id)) there

pub pending_metadata : (p : Parts) (id : ℕ) (r : Record) (metadata : Metadata) → IsInOrder id_before (records_in p) → find (has_number id) p.pending ≡ Some r → metadata ≡ metadata_of r →
    option_map metadata_of (record_of (state_of p) id) ≡ Some metadata
pending_metadata p id r metadata order there is = ap (option_map metadata_of) (pending_live p id r order there) ∙ ap (λ x. Some x) (sym is)

pub stored_record : (p : Parts) (id : ℕ) → IsInOrder id_before (records_in p) → find (has_number id) p.pending ≡ None → record_of (state_of p) id ≡ storing.record_of p.store id
stored_record p id order none = record_there p id order ∙ ap (λ o. option_or (option_map (with_pins p.registry) o) (storing.record_of p.store id)) none

pub stored_metadata : (p : Parts) (id : ℕ) (r : Record) (metadata : Metadata) → IsInOrder id_before (records_in p) → find (has_number id) p.pending ≡ None → storing.record_of p.store id ≡ Some r →
    metadata ≡ metadata_of r → option_map metadata_of (record_of (state_of p) id) ≡ Some metadata
stored_metadata p id r metadata order none there is = grind (arith, common_steps, stored_record)

-- a show is refused exactly if there is no such record
refusal_show : (m : State) (id : ℕ) → refusal m (call.Show id) ≡ no_record (record_of m id)
unfolding refusal
refusal_show m id = sym (row_last (no_record (record_of m id)) (None ∷ None ∷ []) (no_record (record_of m id)) refl refl)

pub show_live : (m : State) (id : ℕ) → IsSome (record_of m id) → refusal m (call.Show id) ≡ None
show_live m id live = grind (arith, common_steps, refusal_show)

pub show_told : (m : State) (id : ℕ) (metadata : Metadata) → Some metadata ≡ option_map metadata_of (record_of m id) → refusal m (call.Show id) ≡ None
show_told m id metadata is = grind (arith, common_steps, refusal_show)

pub show_absent : (m : State) (id : ℕ) → None ≡ option_map metadata_of (record_of m id) → refusal m (call.Show id) ≡ Some NoSuchRecord
show_absent m id is = grind (arith, common_steps, refusal_show)

shown : (m : State) (o : Option Record) (metadata : Metadata) → option_map metadata_of o ≡ Some metadata → (let x : Stepped = (m, show o) in x) ≡ (m, Done (reply.Shown metadata))
shown m (Some r) metadata e = let same : metadata_of r ≡ metadata = cc in ap (λ k. (let x : Stepped = (m, Done (reply.Shown k)) in x)) same
shown m None metadata e = absurd (cc)

pub shown_answers : (p : Parts) (id : ℕ) (metadata : Metadata) → AreSound p → IsAccepted p (call.Show id) → option_map metadata_of (record_of (state_of p) id) ≡ Some metadata →
    Answers p p (call.Show id) (reply.Shown metadata)
unfolding effect
shown_answers p id metadata sound accepted is = grind (arith, common_steps, shown, step_accepted)
