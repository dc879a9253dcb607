-- The loop invariants of `print_log`.
use Rattle.std.proofs.Common.{◌≡◌, ◌≤◌, ◌+◌, ◌++◌, length, string_bytes}
use Rattle.std.specs.Prelude.{is_err}
use Rattle.std.specs.List.{list_any}
use Rattle.ckpt_script.specs.Lines.{lines_of}
use Rattle.ckpt_term_lines.specs.TermReading.{term_reading}
use Rattle.ckpt_log.specs.LogOutputs.{log_has_fault, log_output, log_outputs}
use Rattle.ckpt_log.proofs.replay.print_log.Given as goal

abbrev pub invariant-lines : goal.invariant-lines
invariant-lines l = record {
  printed : string_bytes l.text ++ log_outputs (l.number + 1) l.log (lines_of l.rest) ≡ string_bytes l.fn.text ++ log_output l.bytes;
  faults : list_any (λ line. is_err (term_reading line)) (lines_of l.rest) ≡ log_has_fault l.bytes;
  few : l.number + length l.rest ≤ length l.bytes;
}

abbrev pub decreases-lines : goal.decreases-lines
decreases-lines l = length l.rest
