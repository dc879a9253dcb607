-- The first word of a line, which says what kind of line it is.
use Rattle.std.specs.Prelude.{ℕ, List, [], ◌∷◌, codes, Option, find}
use Rattle.std.specs.Str.{bytes_eq}
use Rattle.ckpt_lines.specs.declared.keyword.Keyword.{Keyword}
use Rattle.ckpt_lines.specs.declared.keyword.Keyword.TheVariants.{Config, Job, Start, Tick, Savepoint, Ack, Decline, Dispose, Restore, Cancel, Take, Deleted, Undeleted, Show, Count, All}

abbrev pub spelling : Keyword → List ℕ
spelling Config = codes "config"
spelling Job = codes "job"
spelling Start = codes "start"
spelling Tick = codes "tick"
spelling Savepoint = codes "savepoint"
spelling Ack = codes "ack"
spelling Decline = codes "decline"
spelling Dispose = codes "dispose"
spelling Restore = codes "restore"
spelling Cancel = codes "cancel"
spelling Take = codes "take"
spelling Deleted = codes "deleted"
spelling Undeleted = codes "undeleted"
spelling Show = codes "show"
spelling Count = codes "count"
spelling All = codes "all"

abbrev pub keywords : List Keyword
keywords = Config ∷ Job ∷ Start ∷ Tick ∷ Savepoint ∷ Ack ∷ Decline ∷ Dispose ∷ Restore ∷ Cancel ∷ Take ∷ Deleted ∷ Undeleted ∷ Show ∷ Count ∷ All ∷ []

unfoldable pub keyword_of : List ℕ → Option Keyword
keyword_of word = find (λ keyword. bytes_eq (spelling keyword) word) keywords
