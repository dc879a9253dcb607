-- Laws of a fenced coordinator, over every list of calls from a sound state.
use Rattle.std.specs.Prelude.{◌≡◌, ℕ, ◌+◌, ◌<◌, ◌≤◌, Bool, true, false, nat_le, List, [], ◌∷◌, ◌↔◌, ◌⊎◌, ⊤}
use Rattle.ckpt_ids.specs.{Ascending.IsAscendingSet, Counting.one_if, Counting.times, Ordered.IsIn, Records.uses, Records.is_present}
use Rattle.ckpt_model.specs.State.{IsUnused, Opening, opened, is_known}
use Rattle.ckpt_model.specs.{Refusals.is_cancelled, Histories.replay, Soundness.IsSound, Soundness.IsCall}
use Rattle.ckpt_model.specs.Laws.{AreCalls, CanOpen, NoneAgain, Part, ack_of, along, given_as, handed_by, is_ack_taken, registered_by}
use Rattle.ckpt_terms.specs.{declared.call.TheConstants.LAST_TERM, declared.call.TheConstants.NAMES_END, declared.call.FencedCall.FencedCall}
use Rattle.ckpt_terms.specs.{declared.call.FencedRefusal.TheVariants.OldTerm, declared.call.FencedAnswer.FencedAnswer}
use Rattle.ckpt_terms.specs.declared.call.FencedCall.TheVariants.{Reserve, Forfeit, Make, Advance}
use Rattle.ckpt_terms.specs.declared.call.FencedAnswer.TheVariants as answer
use Rattle.ckpt_terms.specs.Fencing.{Fenced, fenced, fenced_step, fenced_replay, core_calls, is_of_task, has_ended, is_garbage, may_be_deleted}

pub record CanFence (o : Opening) (first : ℕ) : Type 0 where
  pub core : CanOpen o
  pub first_from : 1 ≤ first
  pub first_to : first ≤ NAMES_END

abbrev pub IsFencedCall : FencedCall → Type 0
IsFencedCall (Make term call) = IsCall call
IsFencedCall call = ⊤

abbrev pub AreFencedCalls : List FencedCall → Type 0
AreFencedCalls [] = ⊤
AreFencedCalls (call ∷ calls) = IsFencedCall call × AreFencedCalls calls

-- What always holds. No law uses `term_from` and `names_from`: 0 is no term and no name in the code.
pub record IsFenced (m : Fenced) : Type 0 where
  pub core : IsSound m.core
  pub term_from : 1 ≤ m.term
  pub term_to : m.term ≤ LAST_TERM
  pub names_from : 1 ≤ m.next_name
  pub names_to : m.next_name ≤ NAMES_END
  -- a file that is in use, waits for deletion or was fetched has a name that was given out, or lies below the first one, and no task
  -- holds it
  pub known : (f : ℕ) → is_known m.core f ≡ true → f < m.next_name
  pub reserved : (f : ℕ) → IsIn f m.unspent → f < m.next_name
  pub apart : (f : ℕ) → IsIn f m.unspent → is_known m.core f ≡ false
  pub ascending : IsAscendingSet m.unspent
  -- a job that was cancelled holds no name
  pub ended : is_cancelled m.core.mode ≡ true → m.unspent ≡ []

-- Laws of each state that is sound (`IsFenced`): of an opening with names, after a fence, of an image, and after calls from one of these.

-- Each number is one of: to be given out yet, held by a task of the running term, in use, waiting for deletion, fetched for it,
-- garbage; and it is there once. A number below the first name is never given out; it is garbage unless a record names it.
abbrev pub Classified : Fenced → Type 0
Classified m =
    (f : ℕ) → one_if (nat_le m.next_name f) + times f m.unspent + one_if (is_present (uses m.core.records) f) + times f m.core.waiting + times f m.core.taken + one_if (is_garbage m f) ≡ 1

-- garbage is garbage for good
abbrev pub GarbageForGood : Fenced → List FencedCall → Type 0
GarbageForGood m calls = (f : ℕ) → is_garbage m f ≡ true → is_garbage (fenced_replay m calls) f ≡ true

-- no live record uses a file that may be deleted, neither then nor later
abbrev pub DeletionsAreSafe : Fenced → List FencedCall → Type 0
DeletionsAreSafe m calls = (f : ℕ) → may_be_deleted m f ≡ true → IsUnused (fenced_replay m calls).core f

-- The calls that reach the coordinator are a history of it, so each law of plain calls holds of them. None of them reports a
-- file as new again that was deleted after m.
pub record IssuesOnce (m : Fenced) (calls : List FencedCall) : Type 0 where
  pub made : AreCalls (core_calls m calls)
  pub core : (fenced_replay m calls).core ≡ replay m.core (core_calls m calls)
  pub none_again : NoneAgain [] m.core (core_calls m calls)

-- From an opening on, they never report a deleted file as new again. So, with no premise, a file was handed out exactly if it was
-- registered and no live record uses it.
pub record IssuedOnce (o : Opening) (first : ℕ) (calls : List FencedCall) : Type 0 where
  pub made : AreCalls (core_calls (fenced o first) calls)
  pub core : (fenced_replay (fenced o first) calls).core ≡ replay (opened o) (core_calls (fenced o first) calls)
  pub none_again : NoneAgain [] (opened o) (core_calls (fenced o first) calls)
  pub handed : (f : ℕ) → IsIn f (along handed_by (opened o) (core_calls (fenced o first) calls))
      ↔ (IsIn f (along registered_by (opened o) (core_calls (fenced o first) calls)) × IsUnused (fenced_replay (fenced o first) calls).core f)

-- a call of a task
abbrev pub is_from_task : FencedCall → Bool
is_from_task (Reserve term count) = true
is_from_task (Forfeit term names) = true
is_from_task (Make term call) = is_of_task call
is_from_task (Advance now term first) = false

abbrev pub term_of : FencedCall → ℕ
term_of (Reserve term count) = term
term_of (Forfeit term names) = term
term_of (Make term call) = term
term_of (Advance now term first) = term

-- Once a restore, an advance or a cancel is accepted, no reservation, forfeit, acknowledgement or decline of the tasks that ran before
-- changes anything, whatever else is called, and each is told so.
abbrev pub ZombiesAreFenced : Fenced → List FencedCall → Type 0
ZombiesAreFenced m calls =
    (end : FencedCall)
    → IsFencedCall end
    → has_ended end (fenced_step m end).1 ≡ true
    → let n : Fenced = fenced_replay (fenced_step m end).0 calls in
    (late : FencedCall) → is_from_task late ≡ true → term_of late ≤ m.term → fenced_step n late ≡ (n, answer.Fenced OldTerm)

-- Right after an accepted restore, advance or cancel no name is held: each one below the next is in use, waits for deletion, was
-- fetched for it, or is garbage. So a sweep then misses no file that has such a name and is garbage; a task that should be
-- dead may still write one later.
abbrev pub SweepIsExact : Fenced → Type 0
SweepIsExact m =
    (end : FencedCall)
    → has_ended end (fenced_step m end).1 ≡ true
    → let n : Fenced = (fenced_step m end).0 in
    (f : ℕ) → f < n.next_name → (is_known n.core f ≡ true) ⊎ (is_garbage n f ≡ true)

-- and so is a sweep of a job that was cancelled, whenever it is made
abbrev pub CancelledIsSwept : Fenced → Type 0
CancelledIsSwept m = is_cancelled m.core.mode ≡ true → (f : ℕ) → f < m.next_name → (is_known m.core f ≡ true) ⊎ (is_garbage m f ≡ true)

-- the numbers that a call gives, by its answer
abbrev pub given_in : FencedAnswer → List ℕ
given_in (answer.Made after its) = given_as its
given_in answer = []

-- an acknowledgement that is accepted for a pending record, by its answer
abbrev pub is_taken_in : FencedAnswer → Bool
is_taken_in (answer.Made after its) = is_ack_taken its
is_taken_in answer = false

-- Each acknowledgement that is accepted for a pending record was made in the term in which that record was triggered. `call`
-- triggers it; `calls` come after it.
abbrev pub OneTerm : Fenced → FencedCall → List FencedCall → Type 0
OneTerm m call calls =
    let n : Fenced = fenced_replay (fenced_step m call).0 calls in
    (id term now : ℕ) (p : Part)
    → given_in (fenced_step m call).1 ≡ id ∷ []
    → is_taken_in (fenced_step n (Make term (ack_of now id p))).1 ≡ true
    → term ≡ m.term
