-- A book: what a coordinator was opened with, all calls since, and the state that they lead to.
use Rattle.std.specs.Prelude.{◌≡◌, ℕ, ◌+◌, if◌then◌else◌, nat_lt, List, [], ◌∷◌, ◌++◌, map, length, Option, None, slice_get}
use Rattle.ckpt_ids.specs.declared.call.Call.{Call}
use Rattle.ckpt_ids.specs.declared.reply.Answer.{Answer}
use Rattle.ckpt_ids.specs.declared.reply.Answer.TheVariants.{Done}
use Rattle.ckpt_ids.specs.declared.reply.Reply.TheVariants.{Counted}
use Rattle.ckpt_ids.specs.Configuration.{Configuration}
use Rattle.ckpt_ids.specs.Records.{count, uses}
use Rattle.ckpt_model.specs.State.{State, Opening, opened}
use Rattle.ckpt_model.specs.Steps.{step}
use Rattle.ckpt_model.specs.Histories.{replay}
use Rattle.ckpt_model.specs.Laws.{CanOpen, AreCalls}
use Rattle.ckpt_locked.specs.Lists.{all}
use Rattle.ckpt_locked.specs.declared.book.Entry.{Entry}

-- what contracts see of a book: the opening, each call with its caller, refused calls too, and how many of the last are
-- in memory
pub record History : Type 0 where
  pub opening : Opening
  pub entries : List Entry
  pub keep : ℕ

-- a book that was just opened, and keeps all entries
abbrev pub newly_opened : Opening → History
newly_opened o = record { opening = o; entries = []; keep = all }

-- the entry at this place, if it is among the last `keep`
abbrev pub entry_at : History → ℕ → Option Entry
entry_at h place = if nat_lt (place + h.keep) (length h.entries) then None else slice_get h.entries place

abbrev pub calls_of : List Entry → List Call
calls_of entries = map (λ e. e.call) entries

-- the state that the calls lead to
unfoldable pub state_of_book : History → State
state_of_book h = replay (opened h.opening) (calls_of h.entries)

-- one entry more, at the end
abbrev pub entered : History → ℕ → Call → History
entered h seat call = record h { entries = h.entries ++ record { seat = seat; call = call } ∷ [] }

-- the answer to the call after all of these
unfoldable pub answer_to : History → Call → Answer
answer_to h call = (step (state_of_book h) call).1

-- the answer to a Count, which is the number of uses by live records
abbrev pub counted : History → ℕ → Answer
counted h file = Done (Counted file (count (uses (state_of_book h).records) file))

-- the opening is valid, and each of the calls can be made
pub record IsHistory (h : History) : Type 0 where
  pub can_open : CanOpen h.opening
  pub are_calls : AreCalls (calls_of h.entries)

-- the model of the coordinator and of the list beside it, with the configuration that the book was opened with
abbrev pub history_of : Configuration → State → List Entry → ℕ → History
history_of first core entries keep = record { opening = record core.opening { config = first }; entries = entries; keep = keep }

-- the coordinator is the replay of the list
pub record IsKept (first : Configuration) (core : State) (entries : List Entry) (keep : ℕ) : Type 0 where
  pub history : IsHistory (history_of first core entries keep)
  pub is_replay : core ≡ state_of_book (history_of first core entries keep)
