-- The names that the proofs take from the crates below and from `specs`.
pub use Rattle.ckpt_align.specs.Alignment.{Alignment, all_released, held_for, is_aligning, is_held, is_late, is_open, opened, released, with_input}
pub use Rattle.ckpt_align.specs.Histories.{Action, Barrier, Element, End, Ends, GivesUp, Item, Reads, Sends, after, answer_to, barriers, before, before_cut, cut_as, cut_by, elements, event_of, has_cut, has_ended, is_number, is_taken, processed, replay, sent, sent_by, taken, taken_by}
pub use Rattle.ckpt_align.specs.declared.input.Input.{Input}
pub use Rattle.ckpt_align.specs.declared.input.Input.TheVariants.{Ended, Held, Open}
pub use Rattle.std.proofs.Common.{Bool, List, Ok, Option, Result, Some, [], ap, arith, false, length, map, refl, subst, suc, sym, true, zero, ℕ, ◌&&◌, ◌++◌, ◌<◌, ◌∙◌, ◌∷◌, ◌≡◌, ◌≢◌, ◌≤◌}
pub use Rattle.std.proofs.lemmas.Bool.{cases_Bool}
pub use Rattle.std.proofs.lemmas.Grind.{common_steps}
pub use Rattle.std.proofs.lemmas.List.{append-nil, append_assoc}
pub use Rattle.std.specs.List.{list_any}
pub use Rattle.std.specs.Prelude.{None, replicate, slice_get, slice_set}
