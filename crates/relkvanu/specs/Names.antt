-- The names of refusals, by their numbers in C.
use Rattle.std.specs.Prelude.{ℕ, List, [], ◌∷◌, get_or, codes}

abbrev pub names : List (List ℕ)
names =
    [] ∷ codes "MomentTooLarge" ∷ codes "NotRunning" ∷ codes "TooManyFiles" ∷ codes "RepeatedFile" ∷ codes "UnknownCheckpoint"
    ∷ codes "UnknownSubtask" ∷ codes "AlreadyAcknowledged" ∷ codes "NameTaken" ∷ codes "FileGone" ∷ codes "NoSuchSavepoint" ∷ codes "InUse"
    ∷ codes "TooManySavepoints" ∷ codes "NotTaken" ∷ codes "NoSuchRecord" ∷ codes "IdsUsedUp" ∷ codes "AtOnce" ∷ []

-- empty if no refusal has the number
abbrev pub refusal_name : ℕ → List ℕ
refusal_name what = get_or names what []

-- and of refusals by a term or by names
abbrev pub fenced_names : List (List ℕ)
fenced_names =
    [] ∷ codes "OldTerm" ∷ codes "Ended" ∷ codes "BadCount" ∷ codes "NamesUsedUp" ∷ codes "TermsUsedUp"
    ∷ codes "Spent" ∷ codes "NeverReserved" ∷ codes "NoNames" ∷ codes "HasNames" ∷ codes "NameInUse" ∷ []

abbrev pub fenced_name : ℕ → List ℕ
fenced_name what = get_or fenced_names what []
