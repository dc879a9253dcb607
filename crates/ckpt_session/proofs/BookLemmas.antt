-- What a book's calls lead to, and what the session makes of it.
use Rattle.ckpt_session.proofs.Names.{◌≡◌, ℕ, Bool, true, false, cond, List, ◌++◌, Option, None, Some, refl, sym, ap, ◌∙◌, is_some, nat_le, option_map, map-append, MOMENTS_END, Call, Answer}
use Rattle.ckpt_session.proofs.Names.{Configuration, State, Opening, opened, step, replay, Entry, History, calls_of, newly_opened, entered, answer_to, state_of_book, Silent, Answered, Started}
use Rattle.ckpt_session.proofs.Names.{MomentTooLarge, Scene, Done, refused, started, started_so_far, called}
use Rattle.ckpt_model.specs.declared.faults.OpenFault.{OpenFault}
use Rattle.ckpt_model.specs.declared.faults.OpenFault.TheVariants as fault
use Rattle.ckpt_model.proofs.Histories.Replays.{replay-append}

pub state_of_book-more : (h : History) (new : List Entry) → state_of_book (record h { entries = h.entries ++ new }) ≡ replay (state_of_book h) (calls_of new)
unfolding state_of_book
state_of_book-more h new = ap (replay (opened h.opening)) (map-append (λ e. e.call) h.entries new) ∙ replay-append (opened h.opening) (calls_of h.entries) (calls_of new)

-- one entry more is one step more
pub state_of_book-entered : (h : History) (seat : ℕ) (call : Call) → state_of_book (entered h seat call) ≡ (step (state_of_book h) call).0
state_of_book-entered h seat call = state_of_book-more h _

pub answer_to-step : (h : History) (call : Call) → answer_to h call ≡ (step (state_of_book h) call).1
unfolding answer_to
answer_to-step h call = refl

-- without calls it is the opening's
pub state_of_book-newly_opened : (o : Opening) → state_of_book (newly_opened o) ≡ opened o
unfolding state_of_book
state_of_book-newly_opened o = refl

-- the call of a line, once it is entered
pub called_is : (scene : Scene) (h new : History) (seat : ℕ) (call : Call) (answer : Answer) → scene.core ≡ Some (state_of_book h) → new ≡ entered h seat call → answer ≡ answer_to h call
    → ◌≡◌ {A = Done} (record scene { core = Some (state_of_book new) }, Answered answer) (called scene scene.core call)
unfolding called
called_is scene h new seat call answer is made given =
    let m : State = state_of_book h in let done : State → Answer → Done = λ m a. (record scene { core = Some m }, Answered a) in
    ap (λ (after : State). done after answer) (ap state_of_book made ∙ state_of_book-entered h seat call)
    ∙ ap (λ (a : Answer). done (step m call).0 a) (given ∙ answer_to-step h call)
    ∙ sym (ap (λ (core : Option State). called scene core call) is)

-- a book that was just opened, for a `start`
pub started_is : (scene : Scene) (now : ℕ) (book : History) (config : Configuration) (shape : List ℕ) → is_some scene.core ≡ false → scene.config ≡ Some config
    → scene.shape ≡ Some shape → nat_le MOMENTS_END now ≡ false
    → book ≡ newly_opened (record { config = config; shape = shape; start = now; first = 1 })
    → ◌≡◌ {A = Done} (record scene { core = Some (state_of_book book) }, Silent) (started_so_far scene now)
unfolding started
started_is scene now book config shape none set_config set_shape early opened_as =
    let opening : Opening = record { config = config; shape = shape; start = now; first = 1 } in
    let done : State → Done = λ m. (record scene { core = Some m }, Silent) in
    ap done (ap state_of_book opened_as ∙ state_of_book-newly_opened opening)
    ∙ sym (
    ap (λ b. cond b (refused scene Started) (started scene now scene.config scene.shape)) none ∙ ap (λ c. started scene now c scene.shape) set_config
    ∙ ap (λ s. started scene now (Some config) s) set_shape ∙ ap (λ b. cond b (refused scene MomentTooLarge) (done (opened opening))) early
    )

-- an opening without a fault is at an early moment
pub is_early : (b : Bool) (other : Option OpenFault) → ◌≡◌ {A = Option OpenFault} None (cond b (Some fault.MomentTooLarge) other) → b ≡ false
is_early true other e = cc
is_early false other e = refl

pub is_some-option_map : {A B : Type 0} (f : A → B) (o : Option A) → is_some (option_map f o) ≡ is_some o
is_some-option_map f None = refl
is_some-option_map f (Some x) = refl
