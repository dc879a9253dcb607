-- The names that the proofs take from the crates below and from `specs`.
pub use Rattle.ckpt_durable.specs.Crashes.{AreEvents, BeginsTermsOnce, Committed, Crashed, Event, GivesNamesOnce, IsDurable, IsLife, IsWithin, KeepsAll, Life, Made, ReadsAreSafe}
pub use Rattle.ckpt_durable.specs.Crashes.{UsesNoneAgain, World, along, goes_on, happens, lives, on_device, started, world}
pub use Rattle.ckpt_durable.specs.Groups.{AreTurns, HaveNoImage, Imaged, IsDurableAs, IsExact, Looked, Receipt, StandAs, Turn, synced}
pub use Rattle.ckpt_durable.specs.Operations.{Commits, Ends, FailsToMake, IsAWorld, Makes, Operation, Performed, asked, recovered, returned}
pub use Rattle.ckpt_ids.specs.{Records.is_present, Records.uses, declared.reply.Answer.Answer}
pub use Rattle.ckpt_logged.proofs.{Asked.events-split, Asked.replay-append, Asked.replay-push, Asked.replay_named, Asked.replay_well}
pub use Rattle.ckpt_logged.specs.Events.{Fence, IsWell, Named, Plain, calls_named, event_step, events_replay, named_as, named_from}
pub use Rattle.ckpt_model.proofs.{Images.Alike.go_on_alike, Images.Settled.settled_alike}
pub use Rattle.ckpt_model.specs.{Images.AreAlike, Images.settled, State.IsUnused, State.State, Steps.step}
pub use Rattle.ckpt_terms.proofs.{Classes.deletions_are_safe, KnownFiles.settled_from, KnownFiles.settled_outbox, Resuming.fenced_settled_alike, Resuming.goes_on_alike, Stepping.advance_by}
pub use Rattle.ckpt_terms.proofs.{Stepping.fenced_step_by, TermLemmas.layer}
pub use Rattle.ckpt_terms.proofs.Fences.{fenced_calls-join, fenced_calls-split, fenced_replay-append, replay_fenced}
pub use Rattle.ckpt_terms.specs.{FencedLaws.AreFencedCalls, FencedLaws.IsFenced, Machines.core_in, Machines.fence_fault, Machines.has_known_from, TermsImages.AreFencedAlike}
pub use Rattle.ckpt_terms.specs.{TermsImages.fenced_settled, TermsImages.machine_settled, declared.call.FencedAnswer.FencedAnswer, declared.call.FencedCall.FencedCall}
pub use Rattle.ckpt_terms.specs.{declared.call.FencedCall.TheVariants.Advance, declared.call.FencedCall.TheVariants.Forfeit, declared.call.FencedCall.TheVariants.Make}
pub use Rattle.ckpt_terms.specs.{declared.call.FencedCall.TheVariants.Reserve, declared.call.TheConstants.NAMES_END, declared.machine.FenceFault.FenceFault}
pub use Rattle.ckpt_terms.specs.{declared.machine.FenceFault.TheVariants.BadName, declared.machine.FenceFault.TheVariants.NameInUse, declared.machine.Machine.Machine}
pub use Rattle.ckpt_terms.specs.Fencing.{Fenced, FencedStepped, ends_the_term, fenced_replay, fenced_step, has_ended, is_accepted, is_unspent, made, may_be_deleted, restart}
pub use Rattle.std.proofs.{lemmas.Bool.both_ways, lemmas.List.take_more}
pub use Rattle.std.proofs.Common.{Bool, List, [], ap, append-nil, append_assoc, ap₂, arith, eqb, false, if◌then◌else◌, inl, inr, ltb, max, not, refl, subst, suc, sym, take, take-append-drop}
pub use Rattle.std.proofs.Common.{true, zero, ℕ, ⊎_elim, ◌&&◌, ◌++◌, ◌+◌, ◌<◌, ◌||◌, ◌∙◌, ◌∷◌, ◌≡◌, ◌≤◌}
pub use Rattle.std.specs.{Prelude.None, Prelude.Option, Prelude.Some, Prelude.cond, Prelude.drop, Prelude.⊤}
