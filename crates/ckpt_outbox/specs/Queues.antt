-- The two queues of an outbox.
use Rattle.std.specs.Prelude.{ℕ, Bool, not, ◌==◌, List, ◌++◌}
use Rattle.std.specs.List.{list_any, filter}
pub use Rattle.ckpt_ids.specs.Ordered.{AreDistinct}

pub record Queues : Type 0 where
  -- handed out and not fetched, the next to be fetched first
  pub waiting : List ℕ
  -- fetched and not reported, in the order in which they were fetched
  pub taken : List ℕ
  -- how many more files have their place reserved
  pub spare : ℕ

-- whether the file is one of these
abbrev pub is_in : ℕ → List ℕ → Bool
is_in file files = list_any (λ g. file == g) files

-- whether the file waits or is taken
abbrev pub is_known : Queues → ℕ → Bool
is_known q file = is_in file (q.waiting ++ q.taken)

-- whether the file is taken
abbrev pub is_taken : Queues → ℕ → Bool
is_taken q file = list_any (λ g. g == file) q.taken

-- the files other than this one
abbrev pub without : ℕ → List ℕ → List ℕ
without file files = filter (λ g. not (g == file)) files
