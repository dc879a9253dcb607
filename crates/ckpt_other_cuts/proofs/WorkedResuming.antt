-- What recorders were told in the worked example meets the premises of the law.
use Rattle.ckpt_other_cuts.proofs.Names.{◌≡◌, ◌<◌, [], ◌∷◌, ◌++◌, ◌∙◌, refl, sym, subst, inl, inr, arith, SubtaskId, IsIn, Barrier, Element, put_on, taken_off, adder, source, Overtakes}
use Rattle.ckpt_other_cuts.proofs.Names.{Reads, Sends, HasPart, part_in, opened, barrier, overtake, settled, step, global_part, anew, kept_moves, WasRecorded, snaps_in, snaps_said, attempt}
use Rattle.ckpt_other_cuts.proofs.Names.{are_stretches, at_line, stretch}
use Rattle.ckpt_once.specs.WorkedExamples.{job, line}
use Rattle.ckpt_unaligned.specs.Laws.{IsInOrder, sent_before}
use Rattle.ckpt_other_cuts.specs.WorkedRecorders.{network}

pub at_task : (P : SubtaskId → Type 0) → P source → P adder → (t : SubtaskId) → IsIn t job.tasks → P t
at_task P first second t (inl e) = subst P (sym e) first
at_task P first second t (inr (inl e)) = subst P (sym e) second
at_task P first second t (inr (inr none)) = absurd none

source_has : HasPart 1 (network.task source)
unfolding step barrier settled
source_has = record { earlier = Sends 0 100 ∷ []; action = Reads 0 (Barrier 1); later = []; are_its = refl; is_whole = refl }

adder_has : HasPart 1 (network.task adder)
unfolding step barrier settled overtake
adder_has = record { earlier = Overtakes 1 ∷ Reads 0 (Element 100) ∷ Sends 0 100 ∷ []; action = Reads 0 (Barrier 1); later = []; are_its = refl; is_whole = refl }

pub have_parts : (t : SubtaskId) → IsIn t job.tasks → HasPart 1 (network.task t)
have_parts = at_task (λ (t : SubtaskId). HasPart 1 (network.task t)) source_has adder_has

is_connected : line.input < (network.task line.receiver).inputs
is_connected = omega arith

in_order : IsInOrder network line
unfolding step barrier settled overtake
in_order = ([], refl)

abbrev SnapsAreSaid : SubtaskId → Type 0
SnapsAreSaid t = snaps_in t stretch.doings ≡ snaps_said (opened (network.task t).inputs) (network.task t).actions

source_snaps : SnapsAreSaid source
unfolding step barrier settled
source_snaps = refl

adder_snaps : SnapsAreSaid adder
unfolding step barrier settled overtake
adder_snaps = refl

sends : sent_before 1 network line ≡ put_on job (anew job).states (kept_moves stretch) line
unfolding step barrier settled
sends = refl

-- whichever its part is, it is what came before the barrier
takes : (its : HasPart 1 (network.task line.receiver)) → part_in 1 network line its ≡ taken_off (kept_moves stretch) line ++ stretch.part line
takes its = global_part 1 network line is_connected in_order its ∙ sends

pub was_recorded : WasRecorded job (anew job) attempt
was_recorded = record {
  is_run = are_stretches.1;
  is_connected = at_line (λ c. c.input < (network.task c.receiver).inputs) is_connected;
  in_order = at_line (λ c. IsInOrder network c) in_order;
  gives_first = λ c has. refl;
  snaps = at_task SnapsAreSaid source_snaps adder_snaps;
  sends = at_line (λ c. sent_before 1 network c ≡ put_on job (anew job).states (kept_moves stretch) c) sends;
  takes = at_line (λ c. (its : HasPart 1 (network.task c.receiver)) → part_in 1 network c its ≡ taken_off (kept_moves stretch) c ++ stretch.part c) takes;
}
