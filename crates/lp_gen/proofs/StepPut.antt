-- The steps of a term that were put: the stack that they make stands in the registers.
use Rattle.std.proofs.Common.{◌≡◌, ◌∙◌, ◌<◌, ℕ, zero, suc, ◌+◌, ◌-◌, List, [], ◌∷◌, ◌++◌, append_assoc, map, length, take, drop, Bool, false, Option, Some, None, ap, refl, sym, subst, arith, true≢false}
use Rattle.std.specs.Prelude.{All, is_none, slice_index_or, sum_by, unwrap_or}
use Rattle.std.specs.List.{list_any}
use Rattle.std.proofs.lemmas.List.{length-take}
use Rattle.std.proofs.lemmas.List.Sums.{sum_by-append}
use Rattle.std.proofs.lemmas.List.Elements.{All-nil, All-head, All-tail, All-cons, All-push}
use Rattle.lp_lemmas.proofs.Lists.{append_nil_sym}
use Rattle.lp_calculus.specs.Term.{index}
use Rattle.lp_calculus.specs.Typing.{o_type}
use Rattle.lp_term.specs.Nodes.{Nodes}
use Rattle.lp_code.specs.declared.instruction.Instr.{Instr}
use Rattle.lp_code.specs.Length.{length_of}
use Rattle.lp_code.specs.Symbolic.{Built, held, whole, application_of, abstraction_of, agree_at, innermost}
use Rattle.lp_code.specs.States.{State, Home}
use Rattle.lp_code.specs.Steps.{Later}
use Rattle.lp_code.specs.Rules.{applies, is_passed}
use Rattle.lp_gen.specs.declared.emitter.Emitter.{Emitter}
use Rattle.lp_gen.specs.declared.types.TypeView.{TypeView}
use Rattle.lp_gen.specs.declared.term_steps.TermStep.{TermStep}
use Rattle.lp_gen.specs.declared.term_steps.TermStep.TheVariants as on
use Rattle.lp_gen.specs.inner.Reading.{read}
use Rattle.lp_gen.specs.inner.Works.{last_of, first_of}
use Rattle.lp_gen.specs.inner.Owned.{makes, made_by}
use Rattle.lp_gen.specs.inner.Running.{HasRoom, Moves, IsTermPut, built_at, AreParts, ApplicationPut, IsBody, AbstractionPut}
use Rattle.lp_gen.specs.inner.Listing.{plain_step}
use Rattle.lp_gen.specs.inner.TermSteps.{Stack, stack, last_built, before_last, step_built, IsFine, steps_built, AreFine, StandIn, StepsPut, TermOfSteps}
use Rattle.lp_gen.proofs.Denoting.{or_none, room_less, room_front}
use Rattle.lp_gen.proofs.TermPut.{then_moves}
use Rattle.lp_gen.proofs.StepsOwn.{own_more, no_types_more}

-- a stack that stands in registers

stand_length : (xs : List (Option Built)) (rs : List ℕ) (bs : List Built) → StandIn xs rs bs → length rs ≡ length bs
stand_length xs [] [] a = refl
stand_length xs [] (b ∷ bs) a = absurd a
stand_length xs (r ∷ rs) [] a = absurd a
stand_length xs (r ∷ rs) (b ∷ bs) a = ap suc (stand_length xs rs bs a.1)

pub stand_push : (xs : List (Option Built)) (rs : List ℕ) (bs : List Built) (r : ℕ) (b : Built) → StandIn xs rs bs → held xs r ≡ Some b → StandIn xs (rs ++ r ∷ []) (bs ++ b ∷ [])
stand_push xs [] [] r b a e = (e, tt)
stand_push xs [] (c ∷ bs) r b a e = absurd a
stand_push xs (q ∷ rs) [] r b a e = absurd a
stand_push xs (q ∷ rs) (c ∷ bs) r b a e = (a.0, stand_push xs rs bs r b a.1 e)

stand_on : (n : ℕ) (xs ys : List (Option Built)) (rs : List ℕ) (bs : List Built) → ((r : ℕ) → r < n → held ys r ≡ held xs r) → All (λ r. r < n) rs → StandIn xs rs bs → StandIn ys rs bs
stand_on n xs ys [] [] k l a = tt
stand_on n xs ys [] (c ∷ bs) k l a = absurd a
stand_on n xs ys (q ∷ rs) [] k l a = absurd a
stand_on n xs ys (q ∷ rs) (c ∷ bs) k l a = (k q (All-head (λ r. r < n) q rs l) ∙ a.0, stand_on n xs ys rs bs k (All-tail (λ r. r < n) q rs l) a.1)

stand_take : (xs : List (Option Built)) (k : ℕ) (rs : List ℕ) (bs : List Built) → StandIn xs rs bs → StandIn xs (take k rs) (take k bs)
stand_take xs zero rs bs a = tt
stand_take xs (suc k) [] [] a = tt
stand_take xs (suc k) [] (c ∷ bs) a = absurd a
stand_take xs (suc k) (q ∷ rs) [] a = absurd a
stand_take xs (suc k) (q ∷ rs) (c ∷ bs) a = (a.0, stand_take xs k rs bs a.1)

stand_drop : (xs : List (Option Built)) (k : ℕ) (rs : List ℕ) (bs : List Built) → StandIn xs rs bs → StandIn xs (drop k rs) (drop k bs)
stand_drop xs zero rs bs a = a
stand_drop xs (suc k) [] [] a = tt
stand_drop xs (suc k) [] (c ∷ bs) a = absurd a
stand_drop xs (suc k) (q ∷ rs) [] a = absurd a
stand_drop xs (suc k) (q ∷ rs) (c ∷ bs) a = stand_drop xs k rs bs a.1

-- those before the last ones, and the last ones
stand_first : (xs : List (Option Built)) (n : ℕ) (rs : List ℕ) (bs : List Built) → StandIn xs rs bs → StandIn xs (first_of n rs) (take (length bs - n) bs)
stand_first xs n rs bs a = subst (λ k. StandIn xs (take (k - n) rs) (take (length bs - n) bs)) (sym (stand_length xs rs bs a)) (stand_take xs (length bs - n) rs bs a)

stand_last : (xs : List (Option Built)) (n : ℕ) (rs : List ℕ) (bs : List Built) → StandIn xs rs bs → StandIn xs (last_of n rs) (drop (length bs - n) bs)
stand_last xs n rs bs a = subst (λ k. StandIn xs (drop (k - n) rs) (drop (length bs - n) bs)) (sym (stand_length xs rs bs a)) (stand_drop xs (length bs - n) rs bs a)

stand_at : (xs : List (Option Built)) (i : ℕ) (rs : List ℕ) (bs : List Built) (d : Built) → StandIn xs rs bs → i < length bs → held xs (slice_index_or rs i 0) ≡ Some (slice_index_or bs i d)
stand_at xs i [] [] d a l = absurd (omega (arith, l))
stand_at xs i [] (c ∷ bs) d a l = absurd a
stand_at xs i (q ∷ rs) [] d a l = absurd a
stand_at xs zero (q ∷ rs) (c ∷ bs) d a l = a.0
stand_at xs (suc i) (q ∷ rs) (c ∷ bs) d a l = stand_at xs i rs bs d a.1 (omega (arith, l))

first_dropped : (k : ℕ) (rs : List ℕ) → slice_index_or (drop k rs) 0 0 ≡ slice_index_or rs k 0
first_dropped zero rs = refl
first_dropped (suc k) [] = refl
first_dropped (suc k) (r ∷ rs) = first_dropped k rs

-- the last term of a stack stands in the last register
stand_top : (xs : List (Option Built)) (rs : List ℕ) (bs : List Built) → StandIn xs rs bs → 0 < length bs → held xs (slice_index_or (last_of 1 rs) 0 0) ≡ Some (last_built bs)
stand_top xs rs bs a l =
    ap (held xs) (first_dropped (length rs - 1) rs) ∙ ap (λ k. held xs (slice_index_or rs (k - 1) 0)) (stand_length xs rs bs a)
    ∙ stand_at xs (length bs - 1) rs bs (whole (index 0) o_type) a (omega (arith, l))

pub all_set : (xs : List (Option Built)) (rs : List ℕ) (bs : List Built) → StandIn xs rs bs → list_any (λ r. is_none (held xs r)) rs ≡ false
all_set xs [] [] a = refl
all_set xs [] (c ∷ bs) a = absurd a
all_set xs (q ∷ rs) [] a = absurd a
all_set xs (q ∷ rs) (c ∷ bs) a = or_none (is_none (held xs q)) (list_any (λ r. is_none (held xs r)) rs) (ap is_none a.0) (all_set xs rs bs a.1)

pub at_held : (xs : List (Option Built)) (r : ℕ) (b : Built) → held xs r ≡ Some b → built_at xs r ≡ b
at_held xs r b e = ap (λ o. unwrap_or o (whole (index 0) o_type)) e

pub all_at : (xs : List (Option Built)) (rs : List ℕ) (bs : List Built) → StandIn xs rs bs → map (built_at xs) rs ≡ bs
all_at xs [] [] a = refl
all_at xs [] (c ∷ bs) a = absurd a
all_at xs (q ∷ rs) [] a = absurd a
all_at xs (q ∷ rs) (c ∷ bs) a = λ i. at_held xs q c a.0 i ∷ all_at xs rs bs a.1 i

all_first : (n k : ℕ) (rs : List ℕ) → All (λ r. r < n) rs → All (λ r. r < n) (take k rs)
all_first n zero rs a = All-nil (λ r. r < n)
all_first n (suc k) [] a = a
all_first n (suc k) (r ∷ rs) a = All-cons (λ r. r < n) r (take k rs) (All-head (λ r. r < n) r rs a) (all_first n k rs (All-tail (λ r. r < n) r rs a))

-- one step more
pub built_more : (b : Nodes) (h : Home) (os : List TermStep) (o : TermStep) (z : Stack) →
    steps_built h (map (plain_step b) (os ++ o ∷ [])) z ≡ step_built h (plain_step b o) (steps_built h (map (plain_step b) os) z)
built_more b h [] o z = refl
built_more b h (p ∷ os) o z = built_more b h os o (step_built h (plain_step b p) z)

pub fine_parts : (b : Nodes) (h : Home) (v n : ℕ) (i : Bool) (os : List TermStep) (o : TermStep) (z : Stack) → AreFine h v n i (map (plain_step b) (os ++ o ∷ [])) z →
    AreFine h v n i (map (plain_step b) os) z × IsFine h v n i (plain_step b o) (steps_built h (map (plain_step b) os) z)
fine_parts b h v n i [] o z a = (tt, a.0)
fine_parts b h v n i (p ∷ os) o z a = let w = fine_parts b h v n i os o (step_built h (plain_step b p) z) a.1 in ((a.0, w.0), w.1)

pub room_on : (h : Home) (later : Later) (v n m k l : ℕ) (os : List (Option Built)) (s t : State) (is xs ys : List Instr) → Moves h later v n m k l os
    s xs t → is ≡ xs ++ ys → HasRoom s (s.place + sum_by length_of is) →
    HasRoom t (t.place + sum_by length_of ys)
room_on h later v n m k l os s t is xs ys x e room =
    subst (λ fs. list_any (is_passed (t.place + sum_by length_of ys)) fs ≡ false) (sym x.same.frames)
    (room_less (t.place + sum_by length_of ys) (s.place + sum_by length_of is) s.frames (let p = ap
    (sum_by length_of) e in let q = sum_by-append length_of xs ys in let r = x.place_is in omega (arith, p, q, r)) room)

pub no_steps : (b : Nodes) (e : Emitter) (made : List ℕ) → made ≡ [] → StepsPut b e e [] made
no_steps b e made none = subst (StepsPut b e e []) (sym none) (record {
  more = [];
  code_is = append_nil_sym e.code.items;
  types_grow = omega arith;
  terms_grow = omega arith;
  own = refl;
  no_types = refl;
  denotes = λ h later vars s st te low few fine room. (
    s,
    record {
      runs = λ rest. refl;
      place_is = let z : sum_by length_of [] ≡ 0 = refl in omega (arith, z);
      same = record { in_body = refl; head_types = refl; head_arguments = refl; goals = refl; frames = refl; assumed = refl };
      types_kept = λ r l. refl;
      terms_kept = λ r l. refl;
      types_stand = st;
      terms_stand = te;
    },
    tt,
    All-nil (λ r. r < e.registers),
  );
})

-- what a form asks for and gives, where the stack stands before it
abbrev Fits : (b : Nodes) → (n : ℕ) → TermStep → (asks : Home → ℕ → List (Option Built) → Type 0) → (built : Home → List (Option Built) → Built) → (made front : List ℕ) → Type 0
Fits b n o asks built made front =
    (h : Home) (v : ℕ) (i : Bool) (z : Stack) (ys : List (Option Built)) → IsFine h v n i (plain_step b o) z → StandIn ys made z.made →
    asks h v ys × (fs : List Built) × (step_built h (plain_step b o) z ≡ stack z.registers (fs ++ built h ys ∷ [])) × StandIn ys front fs

step_then : (b : Nodes) (old mid new : Emitter) (os : List TermStep) (o : TermStep) (made front after : List ℕ) (r : ℕ) (asks : Home → ℕ → List (Option Built) → Type 0) (built : Home →
    List (Option Built) → Built) →
    StepsPut b old mid os made → IsTermPut mid new r asks built → after ≡ front ++ r ∷ [] → made_by (plain_step b o ∷ []) ≡ [] →
    ((n : ℕ) → All (λ r. r < n) made → All (λ r. r < n) front) →
    Fits b old.registers o asks built made front → StepsPut b old new (os ++ o ∷ []) after
step_then b old mid new os o made front after r asks built x p e leaf low_front fits = record {
  more = x.more ++ p.more;
  code_is = p.code_is ∙ ap (λ l. l ++ p.more) x.code_is ∙ append_assoc old.code.items x.more p.more;
  types_grow = let i = x.types_grow in let j = p.types_grow in omega (arith, i, j);
  terms_grow = let i = x.terms_grow in let j = p.terms_grow in omega (arith, i, j);
  own = own_more b os o x.more p.more x.own (p.plain.no_own ∙ sym leaf);
  no_types = no_types_more x.more p.more x.no_types p.plain.no_types;
  denotes = λ h later vars s st te low few fine room.
      let i = p.types_grow in
      let j = p.terms_grow in
      let start = stack s.now.terms [] in
      let parts = fine_parts b h vars old.registers s.in_body os o start fine in
      let w = x.denotes h later vars s st te (omega (arith, low, i)) (omega (arith, few, j)) parts.0 (room_front s (x.more ++ p.more) x.more p.more refl room) in
      let z = steps_built h (map (plain_step b) os) start in
      let f = fits h vars s.in_body z w.0.now.terms parts.1 w.2 in
      let v = p.denotes h later vars w.0 w.1.types_stand w.1.terms_stand low few f.0 (room_on h later vars old.types mid.types old.registers mid.registers z.registers s w.0
      (x.more ++ p.more) x.more p.more w.1 refl room) in
      let front_low = low_front mid.registers w.3 in
      let stands = stand_push v.0.now.terms front f.1 r (built h w.0.now.terms) (stand_on mid.registers w.0.now.terms v.0.now.terms front f.1 v.1.terms_kept front_low f.3) v.2 in
      let is : steps_built h (map (plain_step b) (os ++ o ∷ [])) start ≡ stack z.registers (f.1 ++ built h w.0.now.terms ∷ []) = built_more b h os o start ∙ f.2 in (
        v.0,
        subst (λ (y : Stack). Moves h later vars old.types new.types old.registers new.registers y.registers s (x.more ++ p.more) v.0) (sym is) (then_moves h later vars old.types mid.types new.types
            old.registers mid.registers new.registers z.registers w.0.now.terms z.registers s w.0 v.0 x.more p.more w.1 v.1 x.types_grow x.terms_grow w.1.terms_kept),
        subst (λ rs. StandIn v.0.now.terms rs (steps_built h (map (plain_step b) (os ++ o ∷ [])) start).made) (sym e) (subst (λ (y : Stack). StandIn v.0.now.terms (front ++ r ∷ []) y.made) (sym is)
            stands),
        subst (All (λ r. r < new.registers)) (sym e) (All-push (λ r. r < new.registers) front r (λ k d l. let q = front_low k d l in omega (arith, q, j)) v.3),
      );
}

-- a form that leaves the stack below it
pub leaf_then : (b : Nodes) (old mid new : Emitter) (os : List TermStep) (o : TermStep) (made after : List ℕ) (r : ℕ) (asks : Home → ℕ → List (Option Built) → Type 0) (built : Home →
    List (Option Built) → Built) →
    StepsPut b old mid os made → IsTermPut mid new r asks built → after ≡ made ++ r ∷ [] → made_by (plain_step b o ∷ []) ≡ [] →
    ((h : Home) (v : ℕ) (i : Bool) (z : Stack) (ys : List (Option Built)) → IsFine h v old.registers i (plain_step b o) z →
    asks h v ys × (step_built h (plain_step b o) z ≡ stack z.registers (z.made ++ built h ys ∷ []))) →
    StepsPut b old new (os ++ o ∷ []) after
leaf_then b old mid new os o made after r asks built x p e leaf fits =
    step_then b old mid new os o made made after r asks built x p e leaf (λ n a. a) (λ h v i z ys fine stand. let w = fits h v i z ys fine in (w.0, z.made, w.1, stand))

some_at : (o : Option Built) (d : Built) → is_none o ≡ false → o ≡ Some (unwrap_or o d)
some_at None d e = absurd (true≢false e)
some_at (Some b) d e = refl

pub register_then : (b : Nodes) (old mid : Emitter) (os : List TermStep) (made after : List ℕ) (r : ℕ) → StepsPut b old mid os made → after ≡ made ++ r ∷ [] →
    StepsPut b old mid (os ++ on.Register r ∷ []) after
register_then b old mid os made after r x e = record {
  more = x.more;
  code_is = x.code_is;
  types_grow = x.types_grow;
  terms_grow = x.terms_grow;
  own = ap makes (append_nil_sym x.more) ∙ own_more b os (on.Register r) x.more [] x.own refl;
  no_types = x.no_types;
  denotes = λ h later vars s st te low few fine room.
      let start = stack s.now.terms [] in
      let z = steps_built h (map (plain_step b) os) start in
      let grow = x.terms_grow in
      let parts = fine_parts b h vars old.registers s.in_body os (on.Register r) start fine in
      let below = parts.1.0 in
      let w = x.denotes h later vars s st te low few parts.0 room in
      let here : held w.0.now.terms r ≡ Some (built_at z.registers r) = w.1.terms_kept r below ∙ some_at (held z.registers r) (whole (index 0) o_type) parts.1.1 in
      let stands = stand_push w.0.now.terms made z.made r (built_at z.registers r) w.2 here in
      let is = built_more b h os (on.Register r) start in (
        w.0,
        subst (λ (y : Stack). Moves h later vars old.types mid.types old.registers mid.registers y.registers s x.more w.0) (sym is) w.1,
        subst (λ rs. StandIn w.0.now.terms rs (steps_built h (map (plain_step b) (os ++ on.Register r ∷ [])) start).made) (sym e) (subst (λ (y : Stack). StandIn w.0.now.terms (made ++ r ∷ []) y.made)
            (sym is) stands),
        subst (All (λ r. r < mid.registers)) (sym e) (All-push (λ r. r < mid.registers) made r w.3 (omega (arith, below, grow))),
      );
}

pub apply_then : (b : Nodes) (old mid new : Emitter) (os : List TermStep) (n : ℕ) (made rest heads front args after : List ℕ) (head r : ℕ) → StepsPut b old mid os made →
    args ≡ last_of n made → rest ≡ first_of n made → heads ≡ last_of 1 rest → front ≡ first_of 1 rest →
    head ≡ slice_index_or heads 0 0 → ApplicationPut mid new r head args → after ≡ front ++ r ∷ [] → StepsPut b old new (os ++ on.Apply n ∷ []) after
apply_then b old mid new os n made rest heads front args after head r x ea er eh ef ed p e =
    let front_is : front ≡ first_of 1 (first_of n made) = ef ∙ ap (first_of 1) er in
    let head_is : head ≡ slice_index_or (last_of 1 (first_of n made)) 0 0 = ed ∙ ap (λ l. slice_index_or l 0 0) (eh ∙ ap (last_of 1) er) in
    step_then b old mid new os (on.Apply n) made front after r (λ h v ys. AreParts ys head args) (λ h ys. application_of (built_at ys head) (map (built_at ys) args)) x p e refl
    (λ k a. subst (All (λ r. r < k)) (sym front_is) (all_first k (length (first_of n made) - 1) (first_of n made) (all_first k (length made - n) made a)))
    (λ h v i z ys fine stand.
    let bs = z.made in
    let rest_built = take (length bs - n) bs in
    let args_built = drop (length bs - n) bs in
    let below = fine.0 in
    let some : 0 < length rest_built = let q = length-take (length bs - n) bs in omega (arith, below, q) in
    let rest_stand = stand_first ys n made bs stand in
    let args_stand : StandIn ys args args_built = subst (λ l. StandIn ys l args_built) (sym ea) (stand_last ys n made bs stand) in
    let top : held ys head ≡ Some (last_built rest_built) = ap (held ys) head_is ∙ stand_top ys (first_of n made) rest_built rest_stand some in
    let head_at : built_at ys head ≡ last_built rest_built = at_held ys head (last_built rest_built) top in
    let args_at : map (built_at ys) args ≡ args_built = all_at ys args args_built args_stand in (
      record { head_set = ap is_none top; args_set = all_set ys args args_built args_stand; fit = (λ i. applies (head_at i) (args_at i)) ∙ fine.1 },
      before_last rest_built,
      (λ i. stack z.registers (before_last rest_built ++ application_of (sym head_at i) (sym args_at i) ∷ [])),
      subst (λ l. StandIn ys l (before_last rest_built)) (sym front_is) (stand_first ys 1 (first_of n made) rest_built rest_stand),
    ))

pub abstract_then : (b : Nodes) (old mid new : Emitter) (os : List TermStep) (of : TypeView) (made bodies front after : List ℕ) (body r : ℕ) → StepsPut b old mid os made →
    bodies ≡ last_of 1 made → front ≡ first_of 1 made → body ≡ slice_index_or bodies 0 0 →
    AbstractionPut mid new r body (read b of) → after ≡ front ++ r ∷ [] → StepsPut b old new (os ++ on.Abstract of ∷ []) after
abstract_then b old mid new os of made bodies front after body r x eb ef ed p e =
    let T = read b of in
    let body_is : body ≡ slice_index_or (last_of 1 made) 0 0 = ed ∙ ap (λ l. slice_index_or l 0 0) eb in
    step_then b old mid new os (on.Abstract of) made front after r (λ h v ys. IsBody h v ys body T) (λ h ys. abstraction_of (built_at ys body) T) x p e refl
    (λ k a. subst (All (λ r. r < k)) (sym ef) (all_first k (length made - 1) made a))
    (λ h v i z ys fine stand.
    let bs = z.made in
    let top : held ys body ≡ Some (last_built bs) = ap (held ys) body_is ∙ stand_top ys made bs stand fine.0 in
    let at : built_at ys body ≡ last_built bs = at_held ys body (last_built bs) top in (
      record { known = fine.1; body_set = ap is_none top; fits = ap (λ (u : Built). agree_at (innermost u.loose) (Some T)) at ∙ fine.2 },
      before_last bs,
      (λ i. stack z.registers (before_last bs ++ abstraction_of (sym at i) T ∷ [])),
      subst (λ l. StandIn ys l (before_last bs)) (sym ef) (stand_first ys 1 made bs stand),
    ))

-- one term is left
pub term_of_steps : (b : Nodes) (old new : Emitter) (os : List TermStep) (made : List ℕ) (r : ℕ) → StepsPut b old new os made → r ≡ slice_index_or made 0 0 → TermOfSteps b old new r os
term_of_steps b old new os made r x e = record {
  more = x.more;
  code_is = x.code_is;
  types_grow = x.types_grow;
  terms_grow = x.terms_grow;
  own = x.own;
  no_types = x.no_types;
  denotes = λ h later vars s xs built st te low few fine is room.
      let w = x.denotes h later vars s st te low few fine room in
      let stands : StandIn w.0.now.terms made (built ∷ []) = subst (λ (y : Stack). StandIn w.0.now.terms made y.made) is w.2 in
      let count = stand_length w.0.now.terms made (built ∷ []) stands in (
        w.0,
        subst (λ (y : Stack). Moves h later vars old.types new.types old.registers new.registers y.registers s x.more w.0) is w.1,
        ap (held w.0.now.terms) e ∙ stand_at w.0.now.terms 0 made (built ∷ []) (whole (index 0) o_type) stands (omega arith),
        subst (λ q. q < new.registers) (sym e) (w.3 0 0 (omega (arith, count))),
      );
}
