-- A coordinator whose tasks reserve the names of their files, in a term that each restart ends.
use Rattle.std.specs.Prelude.{ℕ, ◌+◌, max, Bool, true, false, not, ◌&&◌, ◌||◌, nat_lt, nat_le, ◌==◌, List, [], ◌∷◌, ◌++◌, filter, find, if◌then◌else◌, Option, Some, None}
use Rattle.std.specs.List.{list_any, range_with_len}
use Rattle.ckpt_ids.specs.{declared.call.Call.Call, declared.reply.Answer.Answer, declared.reply.Answer.TheVariants.Done, declared.reply.Answer.TheVariants.Refused}
use Rattle.ckpt_ids.specs.declared.call.Call.TheVariants.{Ack, Decline, Restore, Cancel}
use Rattle.ckpt_ids.specs.declared.call.Target.TheVariants as target
use Rattle.ckpt_model.specs.State.{State, Opening, opened, in_outbox, is_known}
use Rattle.ckpt_model.specs.{Refusals.is_cancelled, Steps.Stepped, Steps.step}
use Rattle.ckpt_terms.specs.declared.call.TheConstants.{LAST_TERM, MOST_NAMES, NAMES_END}
use Rattle.ckpt_terms.specs.{declared.call.FencedCall.FencedCall, declared.call.FencedRefusal.FencedRefusal, declared.call.FencedAnswer.FencedAnswer}
use Rattle.ckpt_terms.specs.declared.call.FencedCall.TheVariants.{Reserve, Forfeit, Make, Advance}
use Rattle.ckpt_terms.specs.declared.call.FencedRefusal.TheVariants.{OldTerm, Ended, BadCount, NamesUsedUp, TermsUsedUp, BadName, Spent, NeverReserved}
use Rattle.ckpt_terms.specs.declared.call.FencedAnswer.TheVariants as answer

pub record Fenced : Type 0 where
  pub core : State
  -- of the tasks that run now
  pub term : ℕ
  -- the names from here on were never reserved
  pub next_name : ℕ
  -- the names that the running term reserved, and that neither an accepted acknowledgement nor a forfeit has named yet, ascending
  pub unspent : List ℕ

abbrev pub fenced : Opening → ℕ → Fenced
fenced o first = record { core = opened o; term = 1; next_name = first; unspent = [] }

abbrev pub is_unspent : Fenced → ℕ → Bool
is_unspent m f = list_any (λ g. f == g) m.unspent

-- a call that a task makes
abbrev pub is_of_task : Call → Bool
is_of_task (Ack now id subtask fresh reused) = true
is_of_task (Decline now id subtask) = true
is_of_task call = false

abbrev pub fresh_of : Call → List ℕ
fresh_of (Ack now id subtask fresh reused) = fresh
fresh_of call = []

-- a call that ends the term, where it is accepted
abbrev pub ends_the_term : Call → Bool
ends_the_term (Restore now target shape) = true
ends_the_term (Cancel now) = true
ends_the_term call = false

abbrev pub is_accepted : Answer → Bool
is_accepted (Done reply) = true
is_accepted (Refused why) = false

-- a restore of the choice, in the shape that the job has
abbrev pub restart : ℕ → Call
restart now = Restore now target.Latest None

-- with the term that runs and the next name raised to these
abbrev pub raised : Fenced → ℕ → ℕ → Fenced
raised m term first = record m { term = max m.term term; next_name = max m.next_name first }

-- what the layer refuses

-- of a name that the running term does not hold
abbrev pub not_held : Fenced → ℕ → FencedRefusal
not_held m f = if nat_lt f m.next_name then Spent f else NeverReserved f

abbrev pub not_reserved : Fenced → Option ℕ → Option FencedRefusal
not_reserved m None = None
not_reserved m (Some f) = Some (not_held m f)

-- of an advance after which this term is the last one that has ended
abbrev pub advance_fault : ℕ → ℕ → Option FencedRefusal
advance_fault last first = if (first == 0) || nat_lt NAMES_END first then Some BadName else (if nat_le LAST_TERM last then Some TermsUsedUp else None)

abbrev pub fence : Fenced → FencedCall → Option FencedRefusal
fence m (Reserve term count) =
    if not (term == m.term)
    then Some OldTerm
    else (if is_cancelled m.core.mode then Some Ended
    else (if (count == 0) || nat_lt MOST_NAMES count then Some BadCount
    else (if nat_lt NAMES_END (m.next_name + count) then Some NamesUsedUp else None)))
fence m (Forfeit term names) = if not (term == m.term) then Some OldTerm else None
fence m (Make term call) =
    if is_of_task call && not (term == m.term)
    then Some OldTerm
    else (if ends_the_term call && nat_le LAST_TERM m.term then Some TermsUsedUp else not_reserved m (find (λ f. not (is_unspent m f)) (fresh_of call)))
fence m (Advance now term first) = advance_fault (max m.term term) first

-- what it does

abbrev pub without_all : List ℕ → List ℕ → List ℕ
without_all gone unspent = filter (λ f. not (list_any (λ g. f == g) gone)) unspent

abbrev pub unspent_after : List ℕ → Call → List ℕ
unspent_after unspent call = if ends_the_term call then [] else without_all (fresh_of call) unspent

abbrev pub after_call : Fenced → Call → Stepped → Fenced
after_call m call s = record {
  core = s.0;
  term = if is_accepted s.1 && ends_the_term call then m.term + 1 else m.term;
  next_name = m.next_name;
  unspent = if is_accepted s.1 then unspent_after m.unspent call else m.unspent;
}

-- an advance raises the term and the next name, and then the job is restored; both stay if the restore is refused
abbrev pub advanced : Fenced → ℕ → ℕ → ℕ → Stepped → Fenced
advanced m now term first s = after_call (if is_accepted s.1 then raised m term first else m) (restart now) s

abbrev pub FencedStepped : Type 0
FencedStepped = Fenced × FencedAnswer

abbrev pub made : Fenced → FencedCall → FencedStepped
made m (Reserve term count) = (record m { next_name = m.next_name + count; unspent = m.unspent ++ range_with_len m.next_name count }, answer.Reserved m.next_name)
made m (Forfeit term names) = (record m { unspent = without_all names m.unspent }, answer.Forfeited)
made m (Make term call) = let s : Stepped = step m.core call in (after_call m call s, answer.Made (after_call m call s).term s.1)
made m (Advance now term first) =
    let s : Stepped = step m.core (restart now) in (advanced m now term first s, answer.Made (advanced m now term first s).term s.1)

abbrev pub unless_fenced : Fenced → FencedCall → Option FencedRefusal → FencedStepped
unless_fenced m call (Some why) = (m, answer.Fenced why)
unless_fenced m call None = made m call

unfoldable pub fenced_step : Fenced → FencedCall → FencedStepped
fenced_step m call = unless_fenced m call (fence m call)

-- an answer that says that the call ended the term
abbrev pub has_ended : FencedCall → FencedAnswer → Bool
has_ended (Make term call) (answer.Made after its) = is_accepted its && ends_the_term call
has_ended (Advance now term first) (answer.Made after its) = is_accepted its
has_ended call answer = false

-- lists of calls

abbrev pub fenced_replay : Fenced → List FencedCall → Fenced
fenced_replay m [] = m
fenced_replay m (call ∷ calls) = fenced_replay (fenced_step m call).0 calls

-- the calls that reach the coordinator
abbrev pub passed : FencedCall → FencedAnswer → List Call
passed (Make term call) (answer.Made after its) = call ∷ []
passed (Advance now term first) (answer.Made after its) = restart now ∷ []
passed call answer = []

abbrev pub core_calls : Fenced → List FencedCall → List Call
core_calls m [] = []
core_calls m (call ∷ calls) = passed call (fenced_step m call).1 ++ core_calls (fenced_step m call).0 calls

-- A name that was given out, or that lies below the first one, and that nobody holds: no live record uses its file, it does
-- not wait for deletion and was not fetched for it, and no task of the running term may write it.
abbrev pub is_garbage : Fenced → ℕ → Bool
is_garbage m f = nat_lt f m.next_name && not (is_unspent m f) && not (is_known m.core f)

-- a file that may be deleted: garbage, or of the outbox, whether it waits or was fetched by a take
abbrev pub may_be_deleted : Fenced → ℕ → Bool
may_be_deleted m f = is_garbage m f || in_outbox m.core f
