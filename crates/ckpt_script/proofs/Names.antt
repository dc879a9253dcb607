-- The names that the proofs take from the crates below and from `specs`.
pub use Rattle.ckpt_lines.specs.Reading.{reading}
pub use Rattle.ckpt_script.specs.Devices.{Asked, IsCaused, IsCounted, SourceCauses, most_reads, used}
pub use Rattle.ckpt_script.specs.Flushes.{IsTied}
pub use Rattle.ckpt_script.specs.Known.{IsCut, Passes, PassesFront, Prints, WhereKnown}
pub use Rattle.ckpt_script.specs.Lines.{FindsNewline, HoldsLine, HoldsPart, Moves, TakesLine, TakesPart, has_newline, held, lines_of, newline, onto_first, whole_lines}
pub use Rattle.ckpt_script.specs.Outputs.{Ran, faults_in, output, outputs, scene_after}
pub use Rattle.ckpt_script.specs.Reads.{IsFollowed, ReadsPart, all_left, left_by, line_at}
pub use Rattle.ckpt_script.specs.Runs.{GoesOn, IsReady, text_next}
pub use Rattle.ckpt_script.specs.Telling.{HasRun, IsSoFar, Shows, Stopped, keeps_lines}
pub use Rattle.ckpt_script.specs.Unread.{Unread}
pub use Rattle.ckpt_script.specs.declared.fault.RunFault.{RunFault}
pub use Rattle.ckpt_script.specs.declared.fault.RunFault.TheVariants.{Memory, Read, TooManyLines, Write}
pub use Rattle.ckpt_script.specs.declared.limits.TheConstants.{MOST_LINES}
pub use Rattle.ckpt_script.specs.declared.summary.Summary.{Summary}
pub use Rattle.ckpt_session.specs.Sessions.{Scene, opening_scene, said}
pub use Rattle.std.proofs.Common.{Bool, List, None, Option, Some, [], add-one, ap, append-nil, append_assoc, arith, cond, drop, false, inl, inr, length, length-append, length-drop, min, nat_lt}
pub use Rattle.std.proofs.Common.{refl, rules, slice_index, subst, suc, sym, take, true, zero, ℕ, ⊎_elim, ◌++◌, ◌+◌, ◌-◌, ◌<◌, ◌==◌, ◌||◌, ◌∙◌, ◌∷◌, ◌≡◌, ◌≢◌, ◌≤◌}
pub use Rattle.std.proofs.Math.Seq.{take-add, take-append-add}
pub use Rattle.std.proofs.lemmas.Bool.{both_ways, cases_Bool, eqb-true, ltb-false, ltb-true, or_from, or_left, or_parts, or_right}
pub use Rattle.std.proofs.lemmas.List.{drop-drop, drop-take, length-take, take-append-drop, take-take, take_all}
pub use Rattle.std.proofs.lemmas.List.Folds.{list_any-append}
pub use Rattle.std.specs.Io.KnownBytes.{Appends, IsAtEnd, Keeps, prepend_known}
pub use Rattle.std.specs.List.{slice_range}
pub use Rattle.std.specs.Prelude.{Err, IfErr, IfSome, Ok, OnErr, OnOk, Result, is_err, is_ok}
