-- The names that the proofs take from the crates below and from `specs`.
pub use Rattle.ckpt_align.specs.{Alignment.Alignment, Alignment.is_held, Alignment.is_open, Alignment.released, Alignment.with_input, declared.input.Input.Input}
pub use Rattle.ckpt_align.specs.{declared.input.Input.TheVariants.Ended, declared.input.Input.TheVariants.Held, declared.input.Input.TheVariants.Open}
pub use Rattle.ckpt_unaligned.specs.{Recording.Recorder, declared.answer.Phase.Phase}
pub use Rattle.relkvanu_barriers.specs.{Aligning.alignment_in, Aligning.input_of, Recording.phase_of}
pub use Rattle.std.proofs.{lemmas.Grind.common_steps, lemmas.Grind.drop_more_same}
pub use Rattle.std.proofs.Common.{Bool, List, Ok, [], ap, arith, drop, eqb, false, get_or, length, map, refl}
pub use Rattle.std.proofs.Common.{suc, sym, take, true, zero, ℕ, ◌+◌, ◌<◌, ◌∙◌, ◌∷◌, ◌≡◌}
pub use Rattle.std.proofs.lemmas.Bool.{ne_eqb}
pub use Rattle.std.proofs.lemmas.List.{drop-set-lt, drop_more, map-set, take_more, take_more_set}
pub use Rattle.std.specs.{List.list_any}
pub use Rattle.std.specs.Prelude.{replicate, slice_set}
