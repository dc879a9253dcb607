-- The names that the proofs take from the crates below and from `specs`.
pub use Rattle.ckpt_ids.proofs.CountLemmas.{count_by_push, one_if-false, one_if-true}
pub use Rattle.ckpt_ids.specs.Counting.{one_if}
pub use Rattle.ckpt_ids.specs.declared.call.Call.{Call}
pub use Rattle.ckpt_ids.specs.declared.call.Call.TheVariants.{Tick}
pub use Rattle.ckpt_ids.specs.declared.reply.Answer.{Answer}
pub use Rattle.ckpt_locked.proofs.Crossings.{locked_sync, pass_send}
pub use Rattle.ckpt_locked.proofs.LockCalls.{length-newcomers, newcomers_are}
pub use Rattle.ckpt_locked.specs.Books.{History, answer_to, calls_of, entered}
pub use Rattle.ckpt_locked.specs.Locks.{Agrees, GivenBack, Hand, Lock, later_in, newcomer, newcomers, prior, seen}
pub use Rattle.ckpt_locked.specs.Seats.{answers_by, calls_by, entry}
pub use Rattle.ckpt_locked.specs.declared.book.Entry.{Entry}
pub use Rattle.ckpt_locked.specs.declared.view.Base.{Base}
pub use Rattle.ckpt_workers.specs.Deals.{IsDeal, IsDealOf, IsTallied, turns_of}
pub use Rattle.ckpt_workers.specs.Rounds.{Fate, IsDiscarded, IsReported, IsTried, Stored, deleted_in, gone_in, report_of}
pub use Rattle.ckpt_workers.specs.Shifts.{CallsOn, Exchange, IsAsked, IsShift, MadeAll, answers_in, calls_in, capped}
pub use Rattle.ckpt_workers.specs.Spreads.{AreWorked, IsWorked}
pub use Rattle.ckpt_workers.specs.Tasks.{IsTasked, answers, is_late, is_other, is_taken_in}
pub use Rattle.ckpt_workers.specs.Teams.{IsOneMore, IsTally, IsTeamwork, dealt_to, is_accepted}
pub use Rattle.ckpt_workers.specs.Timers.{Beat, IsTimed, is_refused, tick_told, ticks_told}
pub use Rattle.ckpt_workers.specs.declared.discard.Round.{Round}
pub use Rattle.ckpt_workers.specs.declared.shares.Report.{Report}
pub use Rattle.ckpt_workers.specs.declared.shares.Share.{Share}
pub use Rattle.std.proofs.Common.{All, Bool, Err, IfOk, List, None, Ok, Option, Result, Some, [], ap, append-nil, append_assoc, arith, cond, count_by, drop, eq-eqb, eqb, false, get_or, length}
pub use Rattle.std.proofs.Common.{length-append, map, ne_eqb, not, refl, rules, set, subst, suc, sym, take, true, zero, ℕ, ⊎_elim, ◌%◌, ◌*◌, ◌++◌, ◌+◌, ◌-◌, ◌/◌, ◌<◌, ◌∙◌, ◌∷◌, ◌≡◌, ◌≢◌, ◌≤◌, ◌⊎◌}
pub use Rattle.std.proofs.Crossing.{crosses}
pub use Rattle.std.proofs.Math.Nat.{mod-lt, suc-mul}
pub use Rattle.std.proofs.lemmas.Bool.{OnFalse_at, OnTrue_at, cases_order}
pub use Rattle.std.proofs.lemmas.List.{append_cancel_left, drop_all, drop_more, get_or-map, get_or-set_other, get_or-set_same, length-map, length-set}
pub use Rattle.std.proofs.lemmas.List.{map-append, map-set, nil_from_length, take_all, take_more}
pub use Rattle.std.proofs.lemmas.List.Elements.{All-get_or, All-map, All-push, filter-append}
pub use Rattle.std.specs.List.{enumerate_from, filter, slice_get}
pub use Rattle.std.specs.Option.{is_some, option_or}
pub use denote.Param.Send.{IsSend, sendable}
pub use mathlib.Core.Logic.{dite}
pub use native.Mathlib.Decide.{ℕ_discrete}
