-- The numbers that were noted are those of what is superseded.
use Rattle.ckpt_core.proofs.{◌≡◌, ◌∙◌, ◌++◌, [], ap, sym, List, ℕ, length, Some, arith, AckCompleted, Record, Use, released, after_end, surplus, earlier, handed_after, left_pending}
use Rattle.ckpt_core.{proofs.Completing.Parts.checkpoint_parts, proofs.Completing.Parts.few_earlier, proofs.Completing.Parts.few_superseded, specs.Inside.Completing.superseded_ids}
use Rattle.ckpt_core.proofs.parts.Parts.complete_checkpoint.Goals as goal

noted : (done : Record) (pending : List Record) (id : ℕ) (old new : List ℕ) → id ≡ done.id → old ≡ [] → new ≡ old ++ earlier id pending → new ≡ earlier done.id pending
noted done pending id old new same none e = e ∙ ap (λ i. old ++ earlier i pending) same ∙ ap (λ ids. ids ++ earlier done.id pending) none

pub keep-requires-clause-places : goal.keep-requires-clause-places
keep-requires-clause-places c =
    let e : c.note_subsumed.new.ended.items ≡ earlier c.args.done.id c.args.self.now.pending =
    noted c.args.done c.args.self.now.pending c.id-id.result c.args.self.now.ended.items c.note_subsumed.new.ended.items c.id-id.ensures.value c.requires.none_ended c.note_subsumed.ensures.items in
    omega (arith, ap length e, few_earlier c.args.done.id c.args.self.now.pending, c.requires.places, c.note_subsumed.ensures.capacity)

pub overflow_cast-dropped : goal.overflow_cast-dropped
overflow_cast-dropped c =
    let e : c.note_subsumed.new.ended.items ≡ earlier c.args.done.id c.args.self.now.pending =
    noted c.args.done c.args.self.now.pending c.id-id.result c.args.self.now.ended.items c.note_subsumed.new.ended.items c.id-id.ensures.value c.requires.none_ended c.note_subsumed.ensures.items in
    let gone : c.keep.new.self.ended.items ≡ superseded_ids c.args.self.now.pending c.args.self.now.store c.args.done =
    c.keep.ensures.noted ∙ ap (λ ids. ids ++ surplus c.args.self.now.store c.args.done) e in
    omega (arith, c.len-dropped.ensures, ap length gone, few_superseded c.args.self.now.pending c.args.self.now.store c.args.done, c.requires.few)

gone : (c : goal.After-completed) → c.keep.new.self.ended.items ≡ superseded_ids c.args.self.now.pending c.args.self.now.store c.args.done
gone c =
    c.keep.ensures.noted ∙ ap (λ ids. ids ++ surplus c.args.self.now.store c.args.done) (noted c.args.done c.args.self.now.pending c.id-id.result c.args.self.now.ended.items
    c.note_subsumed.new.ended.items c.id-id.ensures.value c.requires.none_ended c.note_subsumed.ensures.items)

pub returns-clause-parts : goal.returns-clause-parts
returns-clause-parts c =
    let h = c.hand_out_after-released.new.self in
    let left : c.remove_all.new.self ≡ left_pending c.keep.new.self.ended.items c.args.self.now.pending =
    c.remove_all.ensures ∙ ap (λ ids. left_pending ids c.keep.new.self.pending) c.deref.ensures.value ∙ ap (λ x. left_pending c.keep.new.self.ended.items x.pending) c.keep.ensures.parts in
    let handed : h ≡ handed_after c.keep.new.self c.args.done c.keep.new.self.ended.items c.remove_all.new.self h =
    c.hand_out_after-released.ensures.parts ∙ ap (λ i. handed_after c.keep.new.self (record c.args.done { id = i }) c.keep.new.self.ended.items c.remove_all.new.self h) c.id-id.ensures.value in
    let moment : c.read-moment.result ≡ h.clock.latest = omega (arith, c.read-moment.ensures.value) in
    checkpoint_parts c.args.self.now c.keep.new.self h c.args.done (superseded_ids c.args.self.now.pending c.args.self.now.store c.args.done) c.remove_all.new.self c.reset.new.self
    c.completed.new.self c.keep.ensures.parts (gone c) left handed c.reset.ensures (c.completed.ensures ∙ ap (λ n. record h.clock { completed = Some n }) moment)

pub returns-clause-reply : goal.returns-clause-reply
returns-clause-reply c =
    let files : ℕ → List ℕ → List Use → ℕ = λ id ids us. length (released us (after_end id ids us)) in
    let dropped : c.len-dropped.result ≡ length (superseded_ids c.args.self.now.pending c.args.self.now.store c.args.done) =
    c.len-dropped.ensures ∙ sym c.deref.ensures.len ∙ ap length (c.deref.ensures.value ∙ gone c) in
    let handed : c.hand_out_after-released.result ≡ files c.args.done.id (superseded_ids c.args.self.now.pending c.args.self.now.store c.args.done) c.args.self.now.registry =
    rw (c.hand_out_after-released.ensures.count, c.id-id.ensures.value, gone c, c.keep.ensures.parts) in
    ap (λ n. AckCompleted n c.hand_out_after-released.result) dropped ∙ ap (AckCompleted (length (superseded_ids c.args.self.now.pending c.args.self.now.store c.args.done))) handed
