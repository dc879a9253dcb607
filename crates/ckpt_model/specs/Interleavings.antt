-- Several seats make the missing acknowledgements of one record, in every order of their turns.
use Rattle.std.specs.Prelude.{◌≡◌, ℕ, ◌≤◌, Bool, true, false, ◌==◌, List, [], ◌∷◌, map, filter, count_by, Option, Some, None}
use Rattle.std.specs.Option.{option_or, is_some}
use Rattle.ckpt_ids.specs.declared.subtask.SubtaskId.{SubtaskId}
use Rattle.ckpt_ids.specs.declared.call.Call.{Call}
use Rattle.ckpt_ids.specs.declared.call.Call.TheVariants.{Ack}
use Rattle.ckpt_ids.specs.declared.reply.Reply.TheVariants.{AckCompleted}
use Rattle.ckpt_ids.specs.declared.reply.Answer.{Answer}
use Rattle.ckpt_ids.specs.declared.reply.Answer.TheVariants.{Done}
use Rattle.ckpt_ids.specs.Ordered.{IsIn}
use Rattle.ckpt_ids.specs.Records.{Record, has_acknowledged}
use Rattle.ckpt_ids.specs.Shapes.{is_subtask}
use Rattle.ckpt_model.specs.State.{State}
use Rattle.ckpt_model.specs.Refusals.{pending_of}
use Rattle.ckpt_model.specs.Histories.{replay, answers}

-- what this seat has, in order, of a list in which each has its seat beside it
abbrev pub of_seat : {X : Type 0} → ℕ → List (ℕ × X) → List X
of_seat seat xs = map (λ x. x.1) (filter (λ x. x.0 == seat) xs)

-- each seat has the same in the same order
abbrev pub SameBySeat : {X : Type 0} → List (ℕ × X) → List (ℕ × X) → Type 0
SameBySeat given made = (seat : ℕ) → of_seat seat given ≡ of_seat seat made

-- calls, each with the seat that makes it
abbrev pub SeatedCalls : Type 0
SeatedCalls = List (ℕ × Call)

abbrev pub calls_of : SeatedCalls → List Call
calls_of seated = map (λ x. x.1) seated

-- one subtask, and the one new file that it acknowledges with
pub record NewFile : Type 0 where
  pub subtask : SubtaskId
  pub file : ℕ

abbrev pub ack_with : ℕ → ℕ → NewFile → Call
ack_with now id n = Ack now id n.subtask (n.file ∷ []) []

-- a subtask and a file that no later one has
abbrev pub AreApart : List NewFile → Type 0
AreApart [] = Unit {0}
AreApart (n ∷ rest) = ((o : NewFile) → IsIn o rest → (n.subtask ≡ o.subtask → ⊥) × (n.file ≡ o.file → ⊥)) × AreApart rest

-- each comes from a subtask of the record that has not acknowledged
abbrev pub AreMissing : Record → List NewFile → Type 0
AreMissing r news = (n : NewFile) → IsIn n news → (is_subtask r.shape n.subtask ≡ true) × (has_acknowledged r n.subtask ≡ false)

-- how many records an acknowledgement dropped and how many files it released, if it completed its record
abbrev pub completed_by : Answer → Option (ℕ × ℕ)
completed_by (Done (AckCompleted dropped released)) = Some (dropped, released)
completed_by answer = None

abbrev pub first_completed : List Answer → Option (ℕ × ℕ)
first_completed [] = None
first_completed (a ∷ rest) = option_or (completed_by a) (first_completed rest)

abbrev pub is_completing : Answer → Bool
is_completing a = is_some (completed_by a)

-- from this state both lists of calls have the same outcome
pub record SameOutcome (m : State) (given made : List Call) : Type 0 where
  pub state : replay m given ≡ replay m made
  -- as many are accepted, as many refused, and so on for every test of an answer
  pub as_often : (asked : Answer → Bool) → count_by asked (answers m given) ≡ count_by asked (answers m made)
  pub completed : first_completed (answers m given) ≡ first_completed (answers m made)
  -- at most one of them completes the record
  pub once : count_by is_completing (answers m given) ≤ 1

-- Acknowledgements at one moment, of different missing subtasks of one pending record, each with one new file, no two
-- files the same. The seats may take their turns in any order, as long as each makes its own calls in the given order.
-- Source: Carbone et al. 2015: the order in which the tasks acknowledge does not matter.
abbrev pub AnyOrder : State → ℕ → ℕ → Record → List NewFile → SeatedCalls → SeatedCalls → Type 0
AnyOrder m now id r news given made =
    pending_of m.records id ≡ Some r
    → AreMissing r news
    → AreApart news
    → calls_of given ≡ map (ack_with now id) news
    → SameBySeat given made
    → SameOutcome m (calls_of given) (calls_of made)
