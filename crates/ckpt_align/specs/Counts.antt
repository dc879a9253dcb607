-- How many inputs are open, and how many are held.
use Rattle.std.specs.Prelude.{◌≡◌, ℕ, ◌≤◌, List, length, count_by}
use Rattle.ckpt_align.specs.declared.aligner.TheConstants.{MOST_INPUTS}
use Rattle.ckpt_align.specs.declared.input.Input.{Input}
use Rattle.ckpt_align.specs.Alignment.{is_held, is_open}

-- the counts of an aligner are those of its inputs
pub record AreCounted (inputs : List Input) (open_ones held_ones : ℕ) : Type 0 where
  pub few : length inputs ≤ MOST_INPUTS
  pub opened : open_ones ≡ count_by is_open inputs
  pub held : held_ones ≡ count_by is_held inputs
