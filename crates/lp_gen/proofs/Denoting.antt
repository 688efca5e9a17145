-- What the code of a type does where it is run.
use Rattle.std.proofs.Common.{◌≡◌, ◌∙◌, ◌≤◌, ◌<◌, ℕ, zero, suc, ◌+◌, List, [], ◌∷◌, ◌++◌, append_assoc, length}
use Rattle.std.proofs.Common.{Bool, true, false, Option, Some, None, Vec, Global, ap, refl, sym, subst, arith, eq-eqb, ◌⊎◌, inl, inr, ⊎_elim}
use Rattle.std.specs.Prelude.{nat_eq, nat_le, not, min, ◌||◌, if◌then◌else◌, is_none, slice_set, sum_by, unwrap_or, option_map}
use Rattle.std.specs.List.{list_any}
use Rattle.std.proofs.lemmas.List.{append-nil, length-set}
use Rattle.std.proofs.lemmas.List.Sums.{sum_by-append}
use Rattle.std.proofs.lemmas.Bool.{ne_eqb, eqb-true, leb-false, lt-leb, ltb-false, le-ltb}
use Rattle.lp_lemmas.proofs.Booleans.{or_false_left, or_false_right}
use Rattle.lp_lemmas.proofs.Lists.{cons_head, cons_tail}
use Rattle.lp_calculus.specs.Types.{Ty, Tys, var, param as type_param, con, arrow, no_types, types, tys}
use Rattle.lp_calculus.specs.Typing.{o_type}
use Rattle.lp_code.specs.declared.instruction.Instr.{Instr}
use Rattle.lp_code.specs.declared.instruction.Instr.TheVariants as on
use Rattle.lp_code.specs.declared.rule.Rule.{Rule}
use Rattle.lp_code.specs.declared.rule.Rule.TheVariants as rule
use Rattle.lp_code.specs.Length.{length_of}
use Rattle.lp_code.specs.Operands.{type_set, term_set}
use Rattle.lp_code.specs.Symbolic.{held, types_in}
use Rattle.lp_code.specs.States.{Block, under_sigma, under_all, under_assumption, under_not, left_side, right_side, Frame, State, Home, member, is_sigma, innermost_block, depth}
use Rattle.lp_code.specs.Steps.{Later, put_type, leave, is_right_end, settled, passed, effect, after}
use Rattle.lp_code.specs.Rules.{is_count, side_is_passed, is_passed}
use Rattle.lp_code.specs.Denote.{rules, first_broken, broken_by_record, broken_by, unless_broken, run_on, run}
use Rattle.lp_gen.specs.Sources.{IsKnownType, AreKnownTypes}
use Rattle.lp_gen.specs.inner.Pieces.{Piece, type_con, type_arrow, piece, pieces, type_made, types_made}
use Rattle.lp_gen.specs.inner.Running.{HasRegisters, TypesStand, HasRoom, ends_before, Leads, Hold, HoldAll}

pub or_none : (a b : Bool) → a ≡ false → b ≡ false → (a || b) ≡ false
or_none true b e f = absurd (cc)
or_none false b e f = f

-- an instruction that breaks no rule is run
none_broken : (test : Rule → Bool) → ((r : Rule) → test r ≡ false) → (rs : List Rule) → first_broken test rs ≡ None
none_broken test f [] = refl
none_broken test f (r ∷ rs) = ap (λ b. if b then Some r else first_broken test rs) (f r) ∙ none_broken test f rs

pub steps : (h : Home) (later : Later) (s t : State) (i : Instr) (rest : List Instr) → (nat_eq s.place 0 ≡ true → (r : Rule) → broken_by_record h s r ≡ false) → ((r : Rule) →
    broken_by h s rest i r ≡ false) → after h later s i ≡ Some t → run h later s (i ∷ rest) ≡ run h later t rest
steps h later s t i rest sound fine e =
    ap (λ o. unless_broken o s.place (run_on (λ u. run h later u rest) (after h later s i))) (by_place (nat_eq s.place 0) refl) ∙ ap (run_on (λ u. run h later u rest)) e
  where
    by_place : (b : Bool) → nat_eq s.place 0 ≡ b → (if b then first_broken (λ r. broken_by_record h s r || broken_by h s rest i r) rules else first_broken (broken_by h s rest i) rules) ≡ None
    by_place true p = none_broken (λ r. broken_by_record h s r || broken_by h s rest i r) (λ r. or_none (broken_by_record h s r) (broken_by h s rest i r) (sound p r) (fine r)) rules
    by_place false p = none_broken (broken_by h s rest i) fine rules

-- no side ends
no_end : (p : ℕ) (fs : List Frame) → list_any (is_passed p) fs ≡ false → is_right_end p (innermost_block fs) ≡ false
no_end p [] r = refl
no_end p (f ∷ fs) r = by_block f.block (or_false_left (side_is_passed p f.block) (list_any (is_passed p) fs) r) (no_end p fs (or_false_right (side_is_passed p f.block) (list_any
    (is_passed p) fs) r))
  where
    by_block : (b : Block) → side_is_passed p b ≡ false → is_right_end p (innermost_block fs) ≡ false → is_right_end p (if is_sigma b then innermost_block fs else Some b) ≡ false
    by_block (under_sigma r T) e ih = ih
    by_block (under_all r T) e ih = refl
    by_block (under_assumption cs) e ih = refl
    by_block under_not e ih = refl
    by_block (left_side n) e ih = refl
    by_block (right_side n l) e ih = let q = leb-false n p e in ne_eqb n p (λ z. absurd (omega (arith, q, z)))

pub settled_same : (home n : ℕ) (s : State) → list_any (is_passed s.place) s.frames ≡ false → settled home n s ≡ s
settled_same home zero s r = refl
settled_same home (suc n) s r = ap (λ b. if b then settled home n (leave home s) else s) (no_end s.place s.frames r)

lower : (a b : ℕ) (k : Block) → a ≤ b → side_is_passed b k ≡ false → side_is_passed a k ≡ false
lower a b (under_sigma r T) l e = refl
lower a b (under_all r T) l e = refl
lower a b (under_assumption cs) l e = refl
lower a b under_not l e = refl
lower a b (left_side n) l e = let q = leb-false n b e in lt-leb n a (omega (arith, q, l))
lower a b (right_side n g) l e = let q = leb-false n b e in lt-leb n a (omega (arith, q, l))

pub room_less : (a b : ℕ) (fs : List Frame) → a ≤ b → list_any (is_passed b) fs ≡ false → list_any (is_passed a) fs ≡ false
room_less a b [] l e = refl
room_less a b (f ∷ fs) l e =
    or_none (side_is_passed a f.block) (list_any (is_passed a) fs) (lower a b f.block l (or_false_left (side_is_passed b f.block) (list_any (is_passed b) fs) e)) (room_less a b fs l
    (or_false_right (side_is_passed b f.block) (list_any (is_passed b) fs) e))

-- a side that may end at an offset does not end before it, and one that ends behind it may
before_strict : (a b : ℕ) (k : Block) → a < b → ends_before b k ≡ false → side_is_passed a k ≡ false
before_strict a b (under_sigma r T) l e = refl
before_strict a b (under_all r T) l e = refl
before_strict a b (under_assumption cs) l e = refl
before_strict a b under_not l e = refl
before_strict a b (left_side n) l e = let q = ltb-false n b e in lt-leb n a (omega (arith, q, l))
before_strict a b (right_side n g) l e = let q = ltb-false n b e in lt-leb n a (omega (arith, q, l))

pub may_strict : (a b : ℕ) (fs : List Frame) → a < b → list_any (λ (f : Frame). ends_before b f.block) fs ≡ false → list_any (is_passed a) fs ≡ false
may_strict a b [] l e = refl
may_strict a b (f ∷ fs) l e =
    or_none (side_is_passed a f.block) (list_any (is_passed a) fs) (before_strict a b f.block l (or_false_left (ends_before b f.block) (list_any (λ (f : Frame). ends_before b f.block) fs) e))
    (may_strict a b fs l (or_false_right (ends_before b f.block) (list_any (λ (f : Frame). ends_before b f.block) fs) e))

before_not : (a : ℕ) (k : Block) → side_is_passed a k ≡ false → ends_before a k ≡ false
before_not a (under_sigma r T) e = refl
before_not a (under_all r T) e = refl
before_not a (under_assumption cs) e = refl
before_not a under_not e = refl
before_not a (left_side n) e = let q = leb-false n a e in le-ltb n a (omega (arith, q))
before_not a (right_side n g) e = let q = leb-false n a e in le-ltb n a (omega (arith, q))

pub strict_may : (a : ℕ) (fs : List Frame) → list_any (is_passed a) fs ≡ false → list_any (λ (f : Frame). ends_before a f.block) fs ≡ false
strict_may a [] e = refl
strict_may a (f ∷ fs) e =
    or_none (ends_before a f.block) (list_any (λ (f : Frame). ends_before a f.block) fs) (before_not a f.block (or_false_left (side_is_passed a f.block) (list_any (is_passed a) fs) e))
    (strict_may a fs (or_false_right (side_is_passed a f.block) (list_any (is_passed a) fs) e))

-- registers
pub held_set : {A : Type 0} (xs : List (Option A)) (d : ℕ) (x : A) → d < length xs → held (slice_set xs d (Some x)) d ≡ Some x
held_set [] d x l = absurd (omega (arith, l))
held_set (y ∷ ys) zero x l = refl
held_set (y ∷ ys) (suc d) x l = held_set ys d x (omega (arith, l))

pub held_below : {A : Type 0} (xs : List (Option A)) (d r : ℕ) (o : Option A) → r < d → held (slice_set xs d o) r ≡ held xs r
held_below [] d r o l = refl
held_below (y ∷ ys) zero r o l = absurd (omega (arith, l))
held_below (y ∷ ys) (suc d) zero o l = refl
held_below (y ∷ ys) (suc d) (suc r) o l = held_below ys d r o (omega (arith, l))

pub member_more : (r d : ℕ) (xs : List ℕ) → member r xs ≡ false → d < r → member r (xs ++ d ∷ []) ≡ false
member_more r d [] e l = or_none (nat_eq r d) false (ne_eqb r d (λ z. absurd (omega (arith, z, l)))) refl
member_more r d (x ∷ xs) e l = or_none (nat_eq r x) (member r (xs ++ d ∷ [])) (or_false_left (nat_eq r x) (member r xs) e) (member_more r d xs (or_false_right (nat_eq r x) (member r xs) e) l)

set_or_held : {A : Type 0} (xs : List (Option A)) (d r : ℕ) (x y : A) → held (slice_set xs d (Some x)) r ≡ Some y → (r ≡ d) ⊎ (held xs r ≡ Some y)
set_or_held [] d r x y e = inr e
set_or_held (z ∷ zs) zero zero x y e = inl refl
set_or_held (z ∷ zs) zero (suc r) x y e = inr e
set_or_held (z ∷ zs) (suc d) zero x y e = inr e
set_or_held (z ∷ zs) (suc d) (suc r) x y e = ⊎_elim (λ q. inl (ap suc q)) (λ q. inr q) (set_or_held zs d r x y e)

pub many_set : {A : Type 0} (xs : List (Option A)) (n d : ℕ) (x : A) → HasRegisters xs n → d < n → HasRegisters (slice_set xs d (Some x)) n
many_set xs n d x m low = record {
  enough = let z = length-set xs d (Some x) in let y = m.enough in omega (arith, z, y);
  inside = λ r y e. ⊎_elim (λ q. subst (λ k. k < n) (sym q) low) (λ q. m.inside r y q) (set_or_held xs d r x y e);
}

pub many_within : {A : Type 0} (xs : List (Option A)) (n d : ℕ) → HasRegisters xs n → d < n → d < length xs
many_within xs n d m low = let z = m.enough in omega (arith, z, low)

-- an instruction that makes a type
pub put_leads : (h : Home) (later : Later) (vars : ℕ) (s : State) (i : Instr) (d : ℕ) (T : Ty) → effect h later s i ≡ Some (put_type s d T) → type_set i ≡ d ∷ [] → term_set i ≡ [] →
    0 < length_of i → TypesStand h vars d s → d < h.self.types →
    HasRoom s (s.place + length_of i) → ((rest : List Instr) (r : Rule) → broken_by h s rest i r ≡ false) → (t : State) × Leads h later vars d (d + 1) s (i ∷ []) t × Hold t d T
put_leads h later vars s i d T eff ts rs long st low room fine = (
  t,
  record {
    runs = λ rest. steps h later s t i rest st.sound (fine rest) (ap (option_map (λ (u : State). settled h.number (depth u.frames) (passed i u))) eff
        ∙ ap (λ (u : State). Some u) (settled_same h.number (depth s.frames) t room));
    place_is = let one : sum_by length_of (i ∷ []) ≡ 0 + length_of i = refl in omega (arith, one);
    same = record {
      terms = refl;
      terms_set = ap (λ l. s.terms_set ++ l) rs
          ∙ append-nil s.terms_set;
      in_body = refl;
      head_types = refl;
      head_arguments = refl;
      goals = refl;
      frames = refl;
      assumed = refl;
    };
    kept = λ r l. held_below s.now.types d r (Some T) l;
    stands = record {
      few = st.few;
      own = let o = st.own in omega (arith, o);
      as_many = many_set s.now.types h.self.types d T st.as_many low;
      stand = λ x l. held_below s.now.types d x (Some T) (let o = st.own in omega (arith, o, l)) ∙ st.stand x l;
      unset = λ r l. ap (λ ds. member r (s.types_set ++ ds)) ts ∙ member_more r d s.types_set (st.unset r (omega (arith, l))) (omega (arith, l));
      sound = λ e r. let q = eqb-true (s.place + length_of i) 0 e in absurd (omega (arith, q, long));
    };
  },
  held_set s.now.types d T (many_within s.now.types h.self.types d st.as_many low),
)
  where
    t : State
    t = passed i (put_type s d T)

-- what is read
within_all : (s : State) (n d : ℕ) (rs : List ℕ) (Ts : Tys) → HasRegisters s.now.types n → HoldAll s rs Ts → d < n → list_any (λ t. nat_le n t) (rs ++ d ∷ []) ≡ false
within_all s n d [] no_types e a l = or_none (nat_le n d) false (lt-leb n d l) refl
within_all s n d [] (types T Ts) e a l = absurd a
within_all s n d (r ∷ rs) no_types e a l = absurd a
within_all s n d (r ∷ rs) (types T Ts) e a l = or_none (nat_le n r) (list_any (λ t. nat_le n t) (rs ++ d ∷ [])) (lt-leb n r (e.inside r T a.0))
    (within_all s n d rs Ts e a.1 l)

pub none_unset : (s : State) (rs : List ℕ) (Ts : Tys) → HoldAll s rs Ts → list_any (λ t. is_none (held s.now.types t)) rs ≡ false
none_unset s [] no_types a = refl
none_unset s [] (types T Ts) a = absurd a
none_unset s (r ∷ rs) no_types a = absurd a
none_unset s (r ∷ rs) (types T Ts) a = or_none (is_none (held s.now.types r)) (list_any (λ t. is_none (held s.now.types t)) rs) (ap is_none a.0) (none_unset s rs Ts a.1)

tys_held : (s : State) (rs : List ℕ) (Ts : Tys) → HoldAll s rs Ts → tys (types_in s.now rs) ≡ Ts
tys_held s [] no_types a = refl
tys_held s [] (types T Ts) a = absurd a
tys_held s (r ∷ rs) no_types a = absurd a
tys_held s (r ∷ rs) (types T Ts) a = λ i. types (unwrap_or (a.0 i) o_type) (tys_held s rs Ts a.1 i)

known_count : (κ : ℕ → Option ℕ) (vars m : ℕ) (s : State) (rs : List ℕ) (Ts : Tys) → AreKnownTypes κ vars m Ts → HoldAll s rs Ts → m ≡ length rs
known_count κ vars m s [] no_types k a = k
known_count κ vars m s [] (types T Ts) k a = absurd a
known_count κ vars m s (r ∷ rs) no_types k a = absurd a
known_count κ vars zero s (r ∷ rs) (types T Ts) k a = absurd k
known_count κ vars (suc m) s (r ∷ rs) (types T Ts) k a = ap suc (known_count κ vars m s rs Ts k.1 a.1)

con_fine : (h : Home) (vars : ℕ) (s : State) (d k : ℕ) (v : Vec ℕ Global) (Ts : Tys) → TypesStand h vars d s → d < h.self.types → HoldAll s v.items Ts →
    h.tables.kinds k ≡ Some (length v.items) → HasRoom s s.place → (rest : List Instr) (r : Rule) → broken_by h s rest (on.TyCon d k v) r ≡ false
con_fine h vars s d k v Ts st low a e room rest rule.Register = or_none (list_any (λ t. nat_le h.self.types t) (v.items ++ d ∷ [])) false
    (within_all s h.self.types d v.items Ts st.as_many a low) refl
con_fine h vars s d k v Ts st low a e room rest rule.Unset = or_none (list_any (λ t. is_none (held s.now.types t)) v.items) false (none_unset s v.items Ts a) refl
con_fine h vars s d k v Ts st low a e room rest rule.Set = or_none (member d s.types_set || false) false (or_none (member d s.types_set) false (st.unset d (omega arith)) refl) refl
con_fine h vars s d k v Ts st low a e room rest rule.Constant = ap (λ o. not (is_count o (length v.items))) e ∙ ap (λ b. not b) (eq-eqb (length v.items) (length v.items) refl)
con_fine h vars s d k v Ts st low a e room rest rule.Typing = refl
con_fine h vars s d k v Ts st low a e room rest rule.Index = refl
con_fine h vars s d k v Ts st low a e room rest rule.Term = refl
con_fine h vars s d k v Ts st low a e room rest rule.Order = refl
con_fine h vars s d k v Ts st low a e room rest rule.Head = refl
con_fine h vars s d k v Ts st low a e room rest rule.Block = or_none (list_any (is_passed s.place) s.frames) false room refl
con_fine h vars s d k v Ts st low a e room rest rule.Clause = refl
con_fine h vars s d k v Ts st low a e room rest rule.Key = refl

arrow_fine : (h : Home) (vars : ℕ) (s : State) (d a b : ℕ) (A B : Ty) → TypesStand h vars d s → d < h.self.types → Hold s a A → Hold s b B → HasRoom s s.place →
    (rest : List Instr) (r : Rule) → broken_by h s rest (on.TyArr d a b) r ≡ false
arrow_fine h vars s d a b A B st low x y room rest rule.Register =
    or_none (list_any (λ t. nat_le h.self.types t) ((a ∷ b ∷ []) ++ d ∷ [])) false (within_all s h.self.types d (a ∷ b ∷ []) (types A (types B no_types)) st.as_many (x, (y, tt)) low) refl
arrow_fine h vars s d a b A B st low x y room rest rule.Unset = or_none (list_any (λ t. is_none (held s.now.types t)) (a ∷ b ∷ [])) false (none_unset s (a ∷ b ∷ []) (types A
    (types B no_types)) (x, (y, tt))) refl
arrow_fine h vars s d a b A B st low x y room rest rule.Set = or_none (member d s.types_set || false) false (or_none (member d s.types_set) false (st.unset d (omega arith)) refl) refl
arrow_fine h vars s d a b A B st low x y room rest rule.Constant = refl
arrow_fine h vars s d a b A B st low x y room rest rule.Typing = refl
arrow_fine h vars s d a b A B st low x y room rest rule.Index = refl
arrow_fine h vars s d a b A B st low x y room rest rule.Term = refl
arrow_fine h vars s d a b A B st low x y room rest rule.Order = refl
arrow_fine h vars s d a b A B st low x y room rest rule.Head = refl
arrow_fine h vars s d a b A B st low x y room rest rule.Block = or_none (list_any (is_passed s.place) s.frames) false room refl
arrow_fine h vars s d a b A B st low x y room rest rule.Clause = refl
arrow_fine h vars s d a b A B st low x y room rest rule.Key = refl

-- one after the other
pub then_leads : (h : Home) (later : Later) (vars n m k : ℕ) (s t u : State) (is js : List Instr) → Leads h later vars n m s is t → Leads h later vars m k t js u → n ≤ m →
    Leads h later vars n k s (is ++ js) u
then_leads h later vars n m k s t u is js a b l = record {
  runs = λ rest. ap (run h later s) (append_assoc is js rest) ∙ a.runs (js ++ rest) ∙ b.runs rest;
  place_is = let p = a.place_is in let q = b.place_is in let r = sum_by-append length_of is js in omega (arith, p, q, r);
  same = record {
    terms = b.same.terms ∙ a.same.terms;
    terms_set = b.same.terms_set ∙ a.same.terms_set;
    in_body = b.same.in_body ∙ a.same.in_body;
    head_types = b.same.head_types ∙ a.same.head_types;
    head_arguments = b.same.head_arguments ∙ a.same.head_arguments;
    goals = b.same.goals ∙ a.same.goals;
    frames = b.same.frames ∙ a.same.frames;
    assumed = b.same.assumed ∙ a.same.assumed;
  };
  kept = λ r q. b.kept r (omega (arith, q, l)) ∙ a.kept r q;
  stands = b.stands;
}

-- instructions by their plain forms
none_of : (is : List Instr) → pieces is ≡ [] → is ≡ []
none_of [] e = refl
none_of (i ∷ is) e = absurd (cc)

split : (is : List Instr) (ps qs : List Piece) → pieces is ≡ ps ++ qs → (xs : List Instr) × (ys : List Instr) × (is ≡ xs ++ ys) × (pieces xs ≡ ps) × (pieces ys ≡ qs)
split is [] qs e = ([], is, refl, refl, e)
split [] (p ∷ ps) qs e = absurd (cc)
split (i ∷ is) (p ∷ ps) qs e =
    let w = split is ps qs (cons_tail (piece i) p (pieces is) (ps ++ qs) e) in
    let q = cons_head (piece i) p (pieces is) (ps ++ qs) e in
    (i ∷ w.0, w.1, ap (λ l. i ∷ l) w.2, (λ j. q j ∷ w.3 j), w.4)

one_of : (is : List Instr) (p : Piece) → pieces is ≡ p ∷ [] → (i : Instr) × (is ≡ i ∷ []) × (piece i ≡ p)
one_of [] p e = absurd (cc)
one_of (i ∷ is) p e = (i, ap (λ l. i ∷ l) (none_of is (cons_tail (piece i) p (pieces is) [] e)), cons_head (piece i) p (pieces is) [] e)

pub con_of : (i : Instr) (d k : ℕ) (rs : List ℕ) → piece i ≡ type_con d k rs → (v : Vec ℕ Global) × (i ≡ on.TyCon d k v) × (v.items ≡ rs)
con_of (on.TyCon c j v) d k rs e =
    let x : c ≡ d = cc in
    let y : j ≡ k = cc in
    let z : v.items ≡ rs = cc in
    (v, (λ l. on.TyCon (x l) (y l) v), z)
con_of _ d k rs e = absurd (cc)

pub arrow_of : (i : Instr) (d a b : ℕ) → piece i ≡ type_arrow d a b → i ≡ on.TyArr d a b
arrow_of (on.TyArr c x y) d a b e =
    let p : c ≡ d = cc in
    let q : x ≡ a = cc in
    let r : y ≡ b = cc in
    λ l. on.TyArr (p l) (q l) (r l)
arrow_of _ d a b e = absurd (cc)

-- registers are only counted up
mutual
  pub type_grows : (n : ℕ) (T : Ty) → n ≤ (type_made n T).next
  type_grows n (var i) = omega arith
  type_grows n (type_param k) = omega arith
  type_grows n (con k ts) = let q = types_grow n ts in omega (arith, q)
  type_grows n (arrow a b) = let p = type_grows n a in let q = type_grows (type_made n a).next b in omega (arith, p, q)

  types_grow : (n : ℕ) (Ts : Tys) → n ≤ (types_made n Ts).next
  types_grow n no_types = omega arith
  types_grow n (types T Ts) = let p = type_grows n T in let q = types_grow (type_made n T).next Ts in omega (arith, p, q)

-- a type is made
abbrev IsRun : Home → Later → (vars : ℕ) → (next : ℕ) → State → List Instr → (next' : ℕ) → (State → Type 0) → Type 0
IsRun h later vars n s is m P = (t : State) × Leads h later vars n m s is t × P t

pub nothing_leads : (h : Home) (later : Later) (vars n : ℕ) (s : State) (is : List Instr) → TypesStand h vars n s → is ≡ [] → Leads h later vars n n s is s
nothing_leads h later vars n s is st e = subst (λ l. Leads h later vars n n s l s) (sym e) (record {
  runs = λ rest. refl;
  place_is = let z : sum_by length_of [] ≡ 0 = refl in omega (arith, z);
  same = record { terms = refl; terms_set = refl; in_body = refl; head_types = refl; head_arguments = refl; goals = refl; frames = refl; assumed = refl };
  kept = λ r l. refl;
  stands = st;
})

-- the room that is left for what comes behind
pub room_front : (s : State) (is xs ys : List Instr) → is ≡ xs ++ ys → HasRoom s (s.place + sum_by length_of is) → HasRoom s (s.place + sum_by length_of xs)
room_front s is xs ys e room = room_less (s.place + sum_by length_of xs) (s.place + sum_by length_of is) s.frames (let p = ap
    (sum_by length_of) e in let q = sum_by-append length_of xs ys in omega (arith, p, q)) room

pub room_behind : (h : Home) (later : Later) (vars n m : ℕ) (s t : State) (is xs ys : List Instr) → Leads h later vars n m s xs t → is ≡ xs ++ ys →
    HasRoom s (s.place + sum_by length_of is) → HasRoom t (t.place + sum_by length_of ys)
room_behind h later vars n m s t is xs ys l e room =
    subst (λ fs. list_any (is_passed (t.place + sum_by length_of ys)) fs ≡ false) (sym l.same.frames)
    (room_less (t.place + sum_by length_of ys) (s.place + sum_by length_of is) s.frames (let p = ap
    (sum_by length_of) e in let q = sum_by-append length_of xs ys in let r = l.place_is in omega (arith, p, q, r)) room)

last_con : (h : Home) (later : Later) (vars d k m : ℕ) (s : State) (ys : List Instr) (rs : List ℕ) (Ts : Tys) → TypesStand h vars d s → d < h.self.types → HoldAll s rs Ts →
    h.tables.kinds k ≡ Some m → AreKnownTypes h.tables.kinds vars m Ts →
    pieces ys ≡ type_con d k rs ∷ [] → HasRoom s (s.place + sum_by length_of ys) → IsRun h later vars d s ys (d + 1) (λ t. Hold t d (con k Ts))
last_con h later vars d k m s ys rs Ts st low a e ks p room =
    let o = one_of ys (type_con d k rs) p in
    let c = con_of o.0 d k rs o.2 in
    let v = c.0 in
    let whole : ys ≡ on.TyCon d k v ∷ [] = o.1 ∙ ap (λ i. i ∷ []) c.1 in
    let b : HoldAll s v.items Ts = subst (λ l. HoldAll s l Ts) (sym c.2) a in
    let one : sum_by length_of (on.TyCon d k v ∷ []) ≡ 0 + length_of (on.TyCon d k v) = refl in
    let wide : HasRoom s (s.place + length_of (on.TyCon d k v)) = room_less (s.place + length_of (on.TyCon d k v)) (s.place + sum_by length_of ys) s.frames (let q = ap
    (sum_by length_of) whole in omega (arith, q, one)) room in
    let here : HasRoom s s.place = room_less s.place (s.place + length_of (on.TyCon d k v)) s.frames (omega arith) wide in
    let count : h.tables.kinds k ≡ Some (length v.items) = e ∙ ap (λ n. Some n) (known_count h.tables.kinds vars m s v.items Ts ks b) in
    let w = put_leads h later vars s (on.TyCon d k v) d (con k (tys (types_in s.now v.items))) refl refl refl (omega arith) st low wide (con_fine h vars s d k v Ts st low b count here) in
    (w.0, subst (λ l. Leads h later vars d (d + 1) s l w.0) (sym whole) w.1, subst (λ us. Hold w.0 d (con k us)) (tys_held s v.items Ts b) w.2)

last_arrow : (h : Home) (later : Later) (vars d a b : ℕ) (s : State) (ys : List Instr) (A B : Ty) → TypesStand h vars d s → d < h.self.types → Hold s a A → Hold s b B →
    pieces ys ≡ type_arrow d a b ∷ [] → HasRoom s (s.place + sum_by length_of ys) → IsRun h later vars d s ys (d + 1) (λ t. Hold t d (arrow A B))
last_arrow h later vars d a b s ys A B st low x y p room =
    let o = one_of ys (type_arrow d a b) p in
    let whole : ys ≡ on.TyArr d a b ∷ [] = o.1 ∙ ap (λ i. i ∷ []) (arrow_of o.0 d a b o.2) in
    let one : sum_by length_of (on.TyArr d a b ∷ []) ≡ 0 + 7 = refl in
    let wide : HasRoom s (s.place + 7) = room_less (s.place + 7) (s.place + sum_by length_of ys) s.frames (let q = ap (sum_by length_of) whole in omega (arith, q, one)) room in
    let here : HasRoom s s.place = room_less s.place (s.place + 7) s.frames (omega arith) wide in
    let ends : arrow (unwrap_or (held s.now.types a) o_type) (unwrap_or (held s.now.types b) o_type) ≡ arrow A B = λ i. arrow (unwrap_or (x i) o_type) (unwrap_or (y i) o_type) in
    let w = put_leads h later vars s (on.TyArr d a b) d (arrow (unwrap_or (held s.now.types a) o_type) (unwrap_or (held s.now.types b) o_type)) refl refl refl (omega arith) st low wide
    (arrow_fine h vars s d a b A B st low x y here) in
    (w.0, subst (λ l. Leads h later vars d (d + 1) s l w.0) (sym whole) w.1, subst (λ U. Hold w.0 d U) ends w.2)

-- what stood before stands still
held_on : (h : Home) (later : Later) (vars n m : ℕ) (s t : State) (is : List Instr) (r : ℕ) (T : Ty) → Leads h later vars n m s is t → r < n → Hold s r T → Hold t r T
held_on h later vars n m s t is r T l q a = l.kept r q ∙ a

mutual
  pub type_leads : (h : Home) (later : Later) (vars : ℕ) (T : Ty) (n : ℕ) (s : State) (is : List Instr) → TypesStand h vars n s → (type_made n T).next ≤ h.self.types →
      IsKnownType h.tables.kinds vars T → pieces is ≡ (type_made n T).code → HasRoom s (s.place + sum_by length_of is) →
      (t : State) × Leads h later vars n (type_made n T).next s is t × Hold t (type_made n T).register T × ((type_made n T).register < (type_made n T).next)
  type_leads h later vars (var i) n s is st low k p room =
      let few = st.few in
      let low : min i 65535 ≡ i = omega (arith, few, k) in
      (s, nothing_leads h later vars n s is st (none_of is p), subst (λ r. Hold s r (var i)) (sym low) (st.stand i k), let o = st.own in omega (arith, low, o, k))
  type_leads h later vars (type_param j) n s is st low k p room = absurd k
  type_leads h later vars (con c Ts) n s is st low k p room =
      let m = types_made n Ts in
      let w = split is m.code (type_con m.next c m.registers ∷ []) p in
      let x = types_lead h later vars Ts k.0 n s w.0 st (omega (arith, low)) k.2 w.3 (room_front s is w.0 w.1 w.2 room) in
      let y = last_con h later vars m.next c k.0 x.0 w.1 m.registers Ts x.1.stands (omega (arith, low)) x.2 k.1 k.2 w.4 (room_behind h later vars n m.next s x.0 is w.0 w.1 x.1 w.2 room) in
      (y.0, subst (λ l. Leads h later vars n (m.next + 1) s l y.0) (sym w.2) (then_leads h later vars n m.next (m.next + 1) s x.0 y.0 w.0 w.1 x.1 y.1 (types_grow n Ts)), y.2, omega arith)
  type_leads h later vars (arrow A B) n s is st low k p room =
      let a = type_made n A in
      let b = type_made a.next B in
      let grows = type_grows a.next B in
      let w = split is a.code (b.code ++ type_arrow b.next a.register b.register ∷ []) p in
      let v = split w.1 b.code (type_arrow b.next a.register b.register ∷ []) w.4 in
      let x = type_leads h later vars A n s w.0 st (omega (arith, low, grows)) k.0 w.3 (room_front s is w.0 w.1 w.2 room) in
      let behind = room_behind h later vars n a.next s x.0 is w.0 w.1 x.1 w.2 room in
      let y = type_leads h later vars B a.next x.0 v.0 x.1.stands (omega (arith, low)) k.1 v.3 (room_front x.0 w.1 v.0 v.1 v.2 behind) in
      let z = last_arrow h later vars b.next a.register b.register y.0 v.1 A B y.1.stands (omega (arith, low))
      (held_on h later vars a.next b.next x.0 y.0 v.0 a.register A y.1 x.3 x.2) y.2 v.4 (room_behind h later vars a.next b.next x.0 y.0 w.1 v.0 v.1 y.1 v.2 behind) in
      let last = then_leads h later vars a.next b.next (b.next + 1) x.0 y.0 z.0 v.0 v.1 y.1 z.1 grows in
      let both = then_leads h later vars n a.next (b.next + 1) s x.0 z.0 w.0 (v.0 ++ v.1) x.1 last (type_grows n A) in
      (z.0, subst (λ l. Leads h later vars n (b.next + 1) s l z.0) (sym (w.2 ∙ ap (λ l. w.0 ++ l) v.2)) both, z.2, omega arith)

  types_lead : (h : Home) (later : Later) (vars : ℕ) (Ts : Tys) (m : ℕ) (n : ℕ) (s : State) (is : List Instr) → TypesStand h vars n s → (types_made n Ts).next ≤ h.self.types →
      AreKnownTypes h.tables.kinds vars m Ts → pieces is ≡ (types_made n Ts).code → HasRoom s (s.place + sum_by length_of is) →
      (t : State) × Leads h later vars n (types_made n Ts).next s is t × HoldAll t (types_made n Ts).registers Ts
  types_lead h later vars no_types m n s is st low k p room = (s, nothing_leads h later vars n s is st (none_of is p), tt)
  types_lead h later vars (types T Ts) zero n s is st low k p room = absurd k
  types_lead h later vars (types T Ts) (suc m) n s is st low k p room =
      let a = type_made n T in
      let b = types_made a.next Ts in
      let grows = types_grow a.next Ts in
      let w = split is a.code b.code p in
      let x = type_leads h later vars T n s w.0 st (omega (arith, low, grows)) k.0 w.3 (room_front s is w.0 w.1 w.2 room) in
      let y = types_lead h later vars Ts m a.next x.0 w.1 x.1.stands low k.1 w.4 (room_behind h later vars n a.next s x.0 is w.0 w.1 x.1 w.2 room) in (
        y.0,
        subst (λ l. Leads h later vars n b.next s l y.0) (sym w.2) (then_leads h later vars n a.next b.next s x.0 y.0 w.0 w.1 x.1 y.1 (type_grows n T)),
        (held_on h later vars a.next b.next x.0 y.0 w.1 a.register T y.1 x.3 x.2, y.2),
      )
