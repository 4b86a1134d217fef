-- The call that a message makes: what every call has, it has; it keeps a station fit, or unfit; and what it is where that is known.
-- Assumes nothing.
use mathlib.Core.Path.{◌≡◌, refl, sym, ap, ◌∙◌}
use mathlib.Core.Bool.{Bool, true, false, not, ◌&&◌}
use mathlib.Core.List.{List}
use Prim.Native.Nat.{ℕ}
use lib.Dec.{eqb}
use borrow.Author.Tests.{not-true, not-false}
use Rattle.bits.proofs.Cases.{split, clash, both}
use Rattle.answers.specs.declared.Answer.TheVariants.{Unfit, UnknownKind}
use Rattle.answers.specs.Answers.{number_of}
use Rattle.station.specs.declared.Station.{Station}
use Rattle.station.specs.declared.Outcome.{Outcome}
use Rattle.station.specs.declared.Turn.{Turn}
use Rattle.station.specs.Station.{fit}
use Rattle.station.specs.Calls.{refused, request, event, result, take_image, ask}
use Rattle.station.specs.Turns.{turn_of}
use Rattle.station.proofs.Turns.{Kept, kept_refused}
use Rattle.station_laws.specs.Runs as run
use Rattle.station_laws.specs.Runs.{Call}
use Rattle.station_laws.proofs.Demands.{fit_stays}
use Rattle.wire.specs.declared.What.{What}
use Rattle.wire.specs.declared.What.TheVariants.{Request, Event, Result, Image, Ask, Answer, Held}
use Rattle.wire.specs.Reads.{read_asked}
use Rattle.service.specs.Service.{called, respond, on_known, called_known, respond_known}
use Rattle.service.specs.Private.{makes_call}
use Rattle.service.specs.Statements.{KnownSame}

-- it is one of the station's, or the refusal of kinds 128 and 129
pub each_called : (P : Outcome → Type 0) (s : Station) → ((c : Call) → P (run.call s c)) → (w : What) (n : ℕ) (set : List ℕ)
    → (makes_call w ≡ false → P (refused s UnknownKind)) → P (called w s n set)
each_called P s f Request n set g = f (run.request n set)
each_called P s f (Event way) n set g = f (run.event way)
each_called P s f (Result issue number ending) n set g = f (run.result_call issue number ending)
each_called P s f (Image bits apart) n set g = f (run.image_call bits apart)
each_called P s f Ask n set g = f run.ask
each_called P s f (Answer number place issue) n set g = g refl
each_called P s f (Held bits apart) n set g = g refl

-- ---- fitness stays

pub respond_fit : (s : Station) (bytes : List ℕ) → fit (respond s bytes).station ≡ fit s
unfolding respond
respond_fit s bytes =
    let r = read_asked bytes in
    let m = r.message in
    split (eqb (number_of r.answer) 0)
    (λ t. rw t (each_called (λ o. fit o.station ≡ fit s) s (fit_stays s) m.what m.count m.set (λ _. refl)))
    (λ t. rw t)

-- ---- by what is known of fitness

-- a call that is known to be on a fit station is the call
known_called : (w : What) (s : Station) (n : ℕ) (set : List ℕ) → called_known (fit s) w s n set ≡ called w s n set
unfolding request event result take_image ask
known_called Request s n set = refl
known_called (Event way) s n set = refl
known_called (Result issue number ending) s n set = refl
known_called (Image bits apart) s n set = refl
known_called Ask s n set = refl
known_called (Answer number place issue) s n set = refl
known_called (Held bits apart) s n set = refl

pub known_same : KnownSame
unfolding respond respond_known
known_same s bytes = let m = (read_asked bytes).message in rw (known_called m.what s m.count m.set)

pub known_reply : (s : Station) (bytes : List ℕ) {known : Bool} → known ≡ fit s → respond_known known s bytes ≡ respond s bytes
known_reply s bytes f = rw f (known_same s bytes)

-- on a station that isn't fit a message that makes a call is refused
pub unfit_called : (known : Bool) (w : What) (s : Station) (n : ℕ) (set : List ℕ) {a : Bool} → a ≡ makes_call w → a && not known ≡ true
    → refused s Unfit ≡ called_known known w s n set
unfit_called known w s n set {a} q t =
    let (p, o) = both a (not known) t in
    rw (not-true known o) (unfit w (sym q ∙ p))
  where
    unfit : (w : What) → makes_call w ≡ true → refused s Unfit ≡ called_known false w s n set
    unfit Request p = refl
    unfit (Event way) p = refl
    unfit (Result issue number ending) p = refl
    unfit (Image bits apart) p = refl
    unfit Ask p = refl
    unfit (Answer number place issue) p = clash p refl
    unfit (Held bits apart) p = clash p refl

-- past that test such a message finds it fit, and its turn is the call's
pub past_test : (known : Bool) (s : Station) (o : Outcome) {t : Turn} {a : Bool} → a ≡ true → a && not known ≡ false → t ≡ turn_of o
    → t ≡ turn_of (on_known known s o)
past_test known s o {t} {a} q n g =
    let f : known ≡ true = not-false known (sym (ap (λ (x : Bool). x && not known) q) ∙ n) in
    rw f g

-- ---- the set that it leaves

pub kept_on_known : (known : Bool) (s : Station) (set : List ℕ) {o : Outcome} → Kept s set o → Kept s set (on_known known s o)
kept_on_known true s set k = k
kept_on_known false s set k = kept_refused s set Unfit
