-- The text of a refusal.
use Rattle.std.specs.Prelude.{ℕ, List, ◌++◌, codes, decimal}
use Rattle.ckpt_ids.specs.declared.reply.Refusal.{Refusal}
use Rattle.ckpt_ids.specs.declared.reply.Refusal.TheVariants as refusal

-- the name of a refusal, and the file that it names
unfoldable pub refusal_text : Refusal → List ℕ
refusal_text refusal.MomentTooLarge = codes "MomentTooLarge"
refusal_text refusal.NotRunning = codes "NotRunning"
refusal_text refusal.TooManyFiles = codes "TooManyFiles"
refusal_text refusal.RepeatedFile = codes "RepeatedFile"
refusal_text refusal.UnknownCheckpoint = codes "UnknownCheckpoint"
refusal_text refusal.UnknownSubtask = codes "UnknownSubtask"
refusal_text refusal.AlreadyAcknowledged = codes "AlreadyAcknowledged"
refusal_text (refusal.NameTaken file) = codes "NameTaken " ++ decimal file
refusal_text (refusal.FileGone file) = codes "FileGone " ++ decimal file
refusal_text refusal.NoSuchSavepoint = codes "NoSuchSavepoint"
refusal_text refusal.InUse = codes "InUse"
refusal_text refusal.TooManySavepoints = codes "TooManySavepoints"
refusal_text refusal.NotTaken = codes "NotTaken"
refusal_text refusal.NoSuchRecord = codes "NoSuchRecord"
refusal_text refusal.IdsUsedUp = codes "IdsUsedUp"
refusal_text refusal.AtOnce = codes "AtOnce"
