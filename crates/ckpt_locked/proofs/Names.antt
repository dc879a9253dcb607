-- The names that the proofs take from the crates below and from `specs`.
pub use Rattle.atomic_table.proofs.Lists.{at_longer, at_set, at_snoc, exchanged, set_again, set_else, set_here}
pub use Rattle.atomic_table.specs.Table.{Allows, Joins, Splits, Valid, carried_after, gives, keeps, opening, rest, stepped, takes}
pub use Rattle.ckpt_ids.specs.declared.call.Call.{Call}
pub use Rattle.ckpt_ids.specs.declared.reply.Answer.{Answer}
pub use Rattle.ckpt_locked.specs.Books.{History, IsHistory, IsKept, answer_to, calls_of, counted, entered, history_of}
pub use Rattle.ckpt_locked.specs.Locks.{Agrees, Asked, CameTo, Entered, GivenBack, Hand, HasBook, IsIdle, Lock, Made, SeenIn, hand, later_in, newcomer, newcomers}
pub use Rattle.ckpt_locked.specs.Seats.{SeatsBelow, StartsWith, calls_by, entry}
pub use Rattle.ckpt_locked.specs.Turns.{Busy, Called, Claimed, Fits, Orderly, Sat, awaited, base_of, claim, committed, compared, drawn, fresh, grown, has_number, idle, in_line, kept, numbered, passed}
pub use Rattle.ckpt_locked.specs.Turns.{serving, showing, spent, total, waiting}
pub use Rattle.ckpt_locked.specs.declared.book.Entry.{Entry}
pub use Rattle.ckpt_locked.specs.declared.view.Base.{Base}
pub use Rattle.ckpt_locked.specs.declared.view.Claim.{Claim}
pub use Rattle.ckpt_locked.specs.declared.view.View.{View}
pub use Rattle.ckpt_model.specs.Laws.{Acknowledgements, AreCalls, CanOpen}
pub use Rattle.ckpt_model.specs.Refusals.{refusal}
pub use Rattle.ckpt_model.specs.Soundness.{IsCall, IsSound}
pub use Rattle.ckpt_model.specs.State.{Opening, opened}
pub use Rattle.std.proofs.Common.{All, Err, List, Option, Some, [], ap, append-nil, append_assoc, arith, cond, drop, eq-eqb, eqb, false, get_or, inl, inr, length, length-append, ne_eqb}
pub use Rattle.std.proofs.Common.{refl, rules, set, subst, suc, sym, true, true≢false, vec_capacity, vec_len, zero, ℕ, ⊎_elim, ◌%◌, ◌++◌, ◌+◌, ◌-◌, ◌<◌, ◌==◌, ◌^◌, ◌∙◌, ◌∷◌, ◌≡◌, ◌≢◌, ◌≤◌, ◌⊎◌}
pub use Rattle.std.proofs.Math.Seq.{drop-append_seam}
pub use Rattle.std.proofs.lemmas.List.{map-append, nil_from_length}
pub use Rattle.std.proofs.lemmas.List.Elements.{All-cons, All-head, All-nil, All-push, All-tail}
pub use lib.ListN.{get_elem?}
pub use mathlib.Core.Logic.{dite}
pub use mathlib.Core.Option.{none, some, some-injective, some-ne-none}
pub use native.Mathlib.Decide.{ℕ_discrete}
pub use prog.Atomic.{either}
