-- A desk's messages as its calls. Assumes nothing.
use mathlib.Core.Path.{◌≡◌, refl, sym, ◌∙◌, ap, ap₂, subst}
use mathlib.Core.Bool.{true, cond}
use mathlib.Core.List.{List, [], ◌∷◌, ◌++◌}
use Prim.Native.Nat.{ℕ, zero, suc}
use lib.Dec.{eqb}
use lib.ListN.{length, drop}
use borrow.Author.Tests.{eq-eqb, eqb-true}
use Rattle.bits.proofs.Cases.{split, clash}
use Rattle.answers.specs.Answers.{number_of}
use Rattle.station.specs.declared.Station.{Station}
use Rattle.station.specs.Station.{present_issue}
use Rattle.station_laws.specs.Orders.{Fate}
use Rattle.wire.specs.declared.What.{What}
use Rattle.wire.specs.declared.What.TheVariants.{Request, Event, Result, Image, Ask}
use Rattle.wire.specs.declared.Frame.{Frame}
use Rattle.wire.specs.declared.Frame.TheVariants.{Cut, Wrong, Whole}
use Rattle.wire.specs.Reads.{frame_of}
use Rattle.service.specs.Service.{respond, answer_bytes, no_bytes, go_on, answers_for}
use Rattle.station.specs.declared.Picture.{Picture}
use Rattle.desk.specs.declared.Desk.{Desk}
use Rattle.desk.specs.Desk.{desk_fit, reply_number}
use Rattle.desk.specs.Calls.{desk_take_image, desk_ask}
use Rattle.desk.specs.Lines.{listed_cars, outstanding}
use Rattle.desk_laws.specs.Runs as run
use Rattle.desk_laws.specs.Runs.{DeskCall, desk_answer_number, desk_after, calls_desk}
use Rattle.desk_laws.specs.Orders.{DeskOrder}
use Rattle.desk_laws.proofs.AnyOrder.{desk_any_order}
use Rattle.desk_laws.proofs.Calls.{refused_untouched}
use Rattle.desk_laws.proofs.Fits.{station_below}
use Rattle.desk_laws.proofs.Jams.{desk_always}
use Rattle.desk_wire.specs.DeskReads.{DeskMessage, of_station, shaped, frame_up_to, most_length, read_desk_asked}
use Rattle.desk_service.specs.declared.DeskTold.TheVariants as told
use Rattle.desk_service.specs.DeskService.{DeskSaid, briefly, in_lines, in_set, DeskReplied, brief, fit_said, compare_said, told_bytes, station_said, own_said, said_to, respond_desk}
use Rattle.desk_runs.specs.Answering.{answers_by, state_on, state_by, station_answering, desk_answering, desk_after_input}
use Rattle.desk_runs.specs.DeskHeard.{DeskHeard, makes, seeks, parts, lists, opens, compares, refuses, station_heard, own_heard, message_heard, desk_heard, desk_reply_to, desk_heard_for, desk_heard_in, desk_calls_in, desk_replies_in}
use Rattle.desk_runs.specs.DeskRuns.{StationAnswering, DeskMessageIsCall, DeskRefusedKeeps, DeskRunsAreCalls, DeskAlwaysSent, StationSent, DeskAnyOrderSent}

-- ---- the station's definition is this one

-- what comes behind a message, if it is alike
on_alike : {A : Type 0} {f g : ℕ → List A} → ((n : ℕ) → f n ≡ g n) → (x : Frame) → go_on x f ≡ go_on x g
on_alike e Cut = refl
on_alike e Wrong = refl
on_alike e (Whole n) = e n

station_for : (k : ℕ) (s : Station) (input : List ℕ) → answers_for k s input ≡ answers_by station_answering k s input
unfolding answers_for answers_by
station_for zero s input = refl
station_for (suc k) s input =
    ap (λ (l : List ℕ). cond (no_bytes input) [] (answer_bytes (respond s input).answer ++ l)) (on_alike (λ n. station_for k (respond s input).station (drop n input)) (frame_of input))

pub station_answering_lem : StationAnswering
station_answering_lem s input = station_for (length input) s input

-- ---- one message

station_same : (w : What) (d : Desk) (count : ℕ) (set : List ℕ) → brief (station_said w d count set) ≡ desk_reply_to d (station_heard w count set)
station_same Request d count set = refl
station_same (Event way) d count set = refl
station_same (Result issue number ending) d count set = refl
station_same (Image bits apart) d count set = refl
station_same Ask d count set = split (eqb (desk_answer_number d run.ask) 0) (λ t. rw t) (λ t. rw t)
station_same (What.Answer number place issue) d count set = refl
station_same (What.Held bits apart) d count set = refl

own_same : (kind : ℕ) (ns : List ℕ) (xs : List (List ℕ)) (d : Desk) → own_said kind ns xs d ≡ desk_reply_to d (own_heard kind ns xs)
own_same kind ns xs d =
    split (eqb kind 6) (λ t. rw t)
    (λ t6. split (eqb kind 7) (λ t. rw (t6, t))
    (λ t7. split (eqb kind 8) (λ t. rw (t6, t7, t))
    (λ t8. split (eqb kind 9) (λ t. rw (t6, t7, t8, t))
    (λ t9. split (eqb kind 10) (λ t. rw (t6, t7, t8, t9, t))
    (λ t10. split (eqb kind 11) (λ t. rw (t6, t7, t8, t9, t10, t))
    (λ t11. split (eqb kind 12) (λ t. rw (t6, t7, t8, t9, t10, t11, t)) (λ t. rw (t6, t7, t8, t9, t10, t11, t))))))))

said_same : (d : Desk) (m : DeskMessage) → said_to d m ≡ desk_reply_to d (message_heard m)
said_same d (of_station m) = station_same m.what d m.count m.set
said_same d (shaped kind ns xs) = own_same kind ns xs d

pub desk_message_is_call : DeskMessageIsCall
unfolding respond_desk desk_heard
desk_message_is_call d bytes =
    let r = read_desk_asked bytes in
    split (eqb (number_of r.answer) 0) (λ t. rw t (said_same d r.message)) (λ t. rw t)

-- ---- a refusal

-- the number of an answer, 0 of all else
abbrev pub number_told : DeskSaid → ℕ
number_told (briefly (told.Answer number place issue)) = number
number_told (briefly (told.Held bits apart)) = 0
number_told (briefly (told.Place place flag next)) = 0
number_told (briefly (told.Card card)) = 0
number_told (in_lines kind xs) = 0
number_told (in_set o) = 0

-- a question leaves the desk as it was, whatever it is told
asked_keeps : (d : Desk) → (desk_ask d).desk ≡ d
unfolding desk_ask
asked_keeps d = split (desk_fit d) (λ t. rw t) (λ t. rw t)

pub fit_keeps : (d : Desk) (x : DeskSaid) → (fit_said d x).desk ≡ d
fit_keeps d x = split (eqb (reply_number (desk_ask d).reply) 0) (λ t. rw t) (λ t. rw t (asked_keeps d))

pub compare_keeps : (d : Desk) (p : Picture) (n : ℕ) (ns : List ℕ) → (compare_said d p n ns).desk ≡ d
unfolding compare_said
compare_keeps d p n ns = split (eqb (reply_number (desk_take_image d p n ns).reply) 0) (λ t. rw t) (λ t. rw t)

pub reply_keeps : (d : Desk) (h : DeskHeard) → (number_told (desk_reply_to d h).told ≡ 0 → ⊥) → (desk_reply_to d h).desk ≡ d
reply_keeps d (makes c) z = split (eqb (desk_answer_number d c) 0)
    (λ t. absurd (z (taken c t)))
    (λ t. refused_untouched d c (λ e. clash (eq-eqb (desk_answer_number d c) 0 e) t))
  where
    taken : (c : DeskCall) → eqb (desk_answer_number d c) 0 ≡ true → number_told (desk_reply_to d (makes c)).told ≡ 0
    taken (run.request n set) t = eqb-true _ _ t
    taken (run.reports r) t = eqb-true _ _ t
    taken (run.event e x) t = eqb-true _ _ t
    taken (run.pictures p n ns) t = eqb-true _ _ t
    taken run.ask t = rw t
reply_keeps d (seeks c) z = refl
reply_keeps d parts z = refl
reply_keeps d lists z = fit_keeps d (in_lines 138 (listed_cars d))
reply_keeps d opens z = fit_keeps d (in_set (outstanding d))
reply_keeps d (compares p n ns) z = compare_keeps d p n ns
reply_keeps d (refuses a) z = refl

pub desk_refused_keeps : DeskRefusedKeeps
desk_refused_keeps d bytes number place issue e z =
    let same = desk_message_is_call d bytes in
    let number_is : number_told (desk_reply_to d (desk_heard bytes)).told ≡ number = ap (λ (r : DeskReplied). number_told r.told) (sym same) ∙ ap number_told e in
    ap (λ (r : DeskReplied). r.desk) same ∙ reply_keeps d (desk_heard bytes) (λ q. z (sym number_is ∙ q))

-- ---- a whole input

-- the replies to what comes behind a message
replies_on : (d : Desk) (f : ℕ → List ℕ) (g : ℕ → List DeskHeard) → ((n : ℕ) → f n ≡ desk_replies_in d (g n)) → (x : Frame) → go_on x f ≡ desk_replies_in d (go_on x g)
replies_on d f g e Cut = refl
replies_on d f g e Wrong = refl
replies_on d f g e (Whole n) = e n

answers_for_lem : (k : ℕ) (d : Desk) (input : List ℕ) → answers_by desk_answering k d input ≡ desk_replies_in d (desk_heard_for k input)
unfolding answers_by desk_heard_for
answers_for_lem zero d input = refl
answers_for_lem (suc k) d input = split (no_bytes input) (λ t. rw t)
    (λ t. rw t
    (ap₂ (λ (r : DeskReplied) (l : List ℕ). told_bytes r.told ++ l) (desk_message_is_call d input)
    (ap (λ (r : DeskReplied). go_on (frame_up_to most_length input) (λ n. answers_by desk_answering k r.desk (drop n input))) (desk_message_is_call d input)
    ∙ replies_on (desk_reply_to d (desk_heard input)).desk (λ n. answers_by desk_answering k (desk_reply_to d (desk_heard input)).desk (drop n input)) (λ n. desk_heard_for k (drop n input))
    (λ n. answers_for_lem k (desk_reply_to d (desk_heard input)).desk (drop n input)) (frame_up_to most_length input))))

-- a message first, and then the calls of the others
call_first : (d : Desk) (h : DeskHeard) (l : List DeskHeard) → calls_desk (desk_reply_to d h).desk (desk_calls_in l) ≡ calls_desk d (desk_calls_in (h ∷ l))
call_first d (makes c) l = refl
call_first d (seeks c) l = refl
call_first d parts l = refl
call_first d lists l = ap (λ (x : Desk). calls_desk x (desk_calls_in l)) (fit_keeps d (in_lines 138 (listed_cars d)))
call_first d opens l = ap (λ (x : Desk). calls_desk x (desk_calls_in l)) (fit_keeps d (in_set (outstanding d)))
call_first d (compares p n ns) l = ap (λ (x : Desk). calls_desk x (desk_calls_in l)) (compare_keeps d p n ns)
call_first d (refuses a) l = refl

-- the desk after what comes behind a message
states_on : (d : Desk) (f : ℕ → Desk) (g : ℕ → List DeskHeard) → ((n : ℕ) → f n ≡ calls_desk d (desk_calls_in (g n))) → (x : Frame)
    → state_on x d f ≡ calls_desk d (desk_calls_in (go_on x g))
states_on d f g e Cut = refl
states_on d f g e Wrong = refl
states_on d f g e (Whole n) = e n

state_for : (k : ℕ) (d : Desk) (input : List ℕ) → state_by desk_answering k d input ≡ calls_desk d (desk_calls_in (desk_heard_for k input))
unfolding state_by desk_heard_for
state_for zero d input = refl
state_for (suc k) d input = split (no_bytes input) (λ t. rw t)
    (λ t. rw t
    (ap (λ (r : DeskReplied). state_on (frame_up_to most_length input) r.desk (λ n. state_by desk_answering k r.desk (drop n input))) (desk_message_is_call d input)
    ∙ states_on (desk_reply_to d (desk_heard input)).desk (λ n. state_by desk_answering k (desk_reply_to d (desk_heard input)).desk (drop n input)) (λ n. desk_heard_for k (drop n input))
    (λ n. state_for k (desk_reply_to d (desk_heard input)).desk (drop n input)) (frame_up_to most_length input)
    ∙ call_first d (desk_heard input) (go_on (frame_up_to most_length input) (λ n. desk_heard_for k (drop n input)))))

pub desk_runs_are_calls : DeskRunsAreCalls
desk_runs_are_calls d input = (answers_for_lem (length input) d input, state_for (length input) d input)

-- ---- what is promised of calls

pub desk_always_sent : DeskAlwaysSent
desk_always_sent d b input = (state_for (length input) d input, λ p q. desk_always d b (desk_calls_in (desk_heard_in input)) p q)

pub station_sent : StationSent
station_sent d b input = ap (λ (e : Desk). e.station) (state_for (length input) d input) ∙ station_below d b (desk_calls_in (desk_heard_in input))

-- of a desk that some calls have left
abbrev AnyOrderAt : Desk → Type 0
AnyOrderAt x =
    (n : ℕ) (set : List ℕ) → desk_answer_number x (run.request n set) ≡ 0 → (fate : ℕ → Fate) (drives : List (ℕ × ℕ)) (l m : List DeskCall)
    → let s = desk_after x (run.request n set) in
    DeskOrder (present_issue s.station) n fate drives l → DeskOrder (present_issue s.station) n fate drives m → calls_desk s l ≡ calls_desk s m

pub desk_any_order_sent : DeskAnyOrderSent
desk_any_order_sent d b before n set taken fate drives one other p q =
    let calls = desk_calls_in (desk_heard_in before) in
    let at : AnyOrderAt (desk_after_input d before) =
    subst AnyOrderAt (sym (state_for (length before) d before)) (λ n set t fate drives l m o r. (desk_any_order d b calls n set t fate drives l m o r).same) in
    let s = desk_after (desk_after_input d before) (run.request n set) in
    state_for (length one) s one
    ∙ at n set taken fate drives (desk_calls_in (desk_heard_in one)) (desk_calls_in (desk_heard_in other)) p q
    ∙ sym (state_for (length other) s other)
