-- The loop invariants of `files`.
use Rattle.ckpt_lines.proofs.{◌≡◌, List, length, filter_map, FileWord, each, file_word, fresh_file, reused_file, with_front}
use Rattle.ckpt_lines.proofs.lists.files.Given as goal

abbrev pub invariant-files : goal.invariant-files
invariant-files l = record {
  done : List FileWord;
  so_far : with_front done (each file_word l.words) ≡ each file_word l.initial.words;
  fresh : l.fresh.items ≡ filter_map fresh_file done;
  reused : l.reused.items ≡ filter_map reused_file done;
}

abbrev pub decreases-files : goal.decreases-files
decreases-files l = length l.words
