-- So far: the unknown ones of the files before this place.
use Rattle.ckpt_core.proofs.{◌≡◌, not, take, filter, is_known_in}
use Rattle.ckpt_core.proofs.parts.Parts.unknown_files.Given as goal

abbrev pub invariant-loop-file : goal.invariant-loop-file
invariant-loop-file l = record {
  unknown : l.unknown.items ≡ filter (λ f. not (is_known_in l.self f)) (take l.file-index l.file-items);
  none : l.meter ≡ l.fn.meter;
}
