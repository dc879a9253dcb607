-- Progress with names: if all that a pending record lacks acknowledge in the term that runs, in any order, it is completed.
use Rattle.std.specs.Prelude.{◌≡◌, ℕ, true, List, map, Some}
use Rattle.ckpt_ids.specs.{declared.reply.Answer.Answer, Ordered.IsIn}
use Rattle.ckpt_ids.specs.Records.{Record, uses, is_present}
use Rattle.ckpt_model.specs.{Refusals.pending_of, Histories.answers, Laws.Part}
use Rattle.ckpt_model.specs.Progress.{AreAllMissing, EndsCompleted, IsWithin, TimedPart, ack_at}
use Rattle.ckpt_terms.specs.{declared.call.FencedCall.FencedCall, declared.call.FencedCall.TheVariants.Make, Fencing.Fenced, TermsImages.fenced_answers}
use Rattle.ckpt_terms.specs.declared.call.FencedAnswer.TheVariants as answer

-- the running term holds the name of each fresh file, and a live record uses each reused one
pub record HasNames (m : Fenced) (p : Part) : Type 0 where
  pub held : (f : ℕ) → IsIn f p.fresh → IsIn f m.unspent
  pub used : (f : ℕ) → IsIn f p.reused → is_present (uses m.core.records) f ≡ true

-- in the term that runs
abbrev pub ack_in : ℕ → ℕ → TimedPart → FencedCall
ack_in term id t = Make term (ack_at id t)

-- Each reaches the coordinator, is accepted there, and the last one completes the record.
abbrev pub CompletesInTerm : Fenced → ℕ → Record → List TimedPart → Type 0
CompletesInTerm m id r ts =
    let its : List Answer = answers m.core (map (ack_at id) ts) in
    pending_of m.core.records id ≡ Some r
    → AreAllMissing r ts
    → ((t : TimedPart) → IsIn t ts → IsWithin t × HasNames m t.part)
    → (fenced_answers m (map (ack_in m.term id) ts) ≡ map (answer.Made m.term) its) × EndsCompleted its
