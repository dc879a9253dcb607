-- A coordinator with or without names, and its step where a call has no term.
use Rattle.std.specs.Prelude.{◌≡◌, ◌≤◌, ℕ, Bool, not, ◌&&◌, ◌||◌, nat_le, nat_lt, ◌==◌, List, [], ◌++◌, flat_map, if◌then◌else◌, Option, Some, None, is_none}
use Rattle.std.specs.List.{list_any}
use Rattle.ckpt_ids.specs.{declared.call.Call.Call, Records.Record}
use Rattle.ckpt_model.specs.{State.State, Steps.Stepped, Steps.step}
use Rattle.ckpt_terms.specs.{declared.call.TheConstants.NAMES_END, declared.call.FencedCall.TheVariants.Make, declared.call.FencedAnswer.FencedAnswer}
use Rattle.ckpt_terms.specs.{declared.machine.FenceFault.FenceFault, declared.machine.Machine.Machine}
use Rattle.ckpt_terms.specs.declared.call.FencedAnswer.TheVariants as answer
use Rattle.ckpt_terms.specs.declared.machine.FenceFault.TheVariants.{HasNames, BadName, NameInUse}
use Rattle.ckpt_terms.specs.declared.machine.Machine.TheVariants as machine
use Rattle.ckpt_terms.specs.Fencing.{Fenced, FencedStepped, fenced_step, is_of_task, ends_the_term}

-- what a coordinator with names has beside its state
pub record Issued : Type 0 where
  pub term : ℕ
  pub next_name : ℕ
  pub unspent : List ℕ

-- names from this one on, none of them reserved yet
abbrev pub first_names : ℕ → Issued
first_names first = record { term = 1; next_name = first; unspent = [] }

abbrev pub core_in : Machine → State
core_in (machine.Plain m) = m
core_in (machine.Fenced m) = m.core

abbrev pub issued_by : Fenced → Issued
issued_by m = record { term = m.term; next_name = m.next_name; unspent = m.unspent }

abbrev pub names_in : Machine → Option Issued
names_in (machine.Plain m) = None
names_in (machine.Fenced m) = Some (issued_by m)

-- the state and the names together
abbrev pub fenced_of : State → Issued → Fenced
fenced_of m n = record { core = m; term = n.term; next_name = n.next_name; unspent = n.unspent }

abbrev pub machine_of : State → Option Issued → Machine
machine_of m None = machine.Plain m
machine_of m (Some n) = machine.Fenced (fenced_of m n)

-- the term that runs, or 0
abbrev pub term_in : Machine → ℕ
term_in (machine.Plain m) = 0
term_in (machine.Fenced m) = m.term

-- The step of a call without a term. No term is 0: so of a coordinator with names a task's call is refused, and a restore or
-- cancel ends the term that runs.
abbrev pub machine_step : Machine → Call → Machine × FencedAnswer
machine_step (machine.Plain m) call = let s : Stepped = step m call in (machine.Plain s.0, answer.Made 0 s.1)
machine_step (machine.Fenced m) call = let s : FencedStepped = fenced_step m (Make 0 call) in (machine.Fenced s.0, s.1)

-- a call that needs no term and ends none
abbrev pub is_free : Call → Bool
is_free call = not (is_of_task call) && not (ends_the_term call)

-- a call that the coordinator answers, as if there were no names
abbrev pub passes : Option Issued → Call → Bool
passes names call = is_free call || is_none names

-- the coordinator makes its step, and the names stay
pub record MakesStep (old new : Machine) (call : Call) (its : FencedAnswer) : Type 0 where
  pub core : core_in new ≡ (step (core_in old) call).0
  pub names : names_in new ≡ names_in old
  pub told : its ≡ answer.Made (term_in old) (step (core_in old) call).1

-- every file that the record uses
abbrev pub files_by : Record → List ℕ
files_by r = flat_map (λ a. a.files) r.acks ++ r.pins

-- every file that is in use, waits for deletion or was fetched for it
abbrev pub known_files : State → List ℕ
known_files m = flat_map files_by m.records ++ (m.waiting ++ m.taken)

-- whether one of them has this number or a greater one
abbrev pub has_known_from : State → ℕ → Bool
has_known_from m first = list_any (nat_le first) (known_files m)

-- a name from which on names can be given out
pub record IsFirstName (first : ℕ) : Type 0 where
  pub from : 1 ≤ first
  pub to : first ≤ NAMES_END

-- why a coordinator can't have names from this one on
abbrev pub fence_fault : Machine → ℕ → Option FenceFault
fence_fault (machine.Plain m) first =
    if (first == 0) || nat_lt NAMES_END first then Some BadName else (if has_known_from m first then Some NameInUse else None)
fence_fault (machine.Fenced m) first = Some HasNames
