-- The code of a term that was put, of each form: from a state in which its parts stand to one in which the whole does.
use Rattle.std.proofs.Common.{◌≡◌, ◌∙◌, ◌≤◌, ◌<◌, ℕ, ℤ, suc, ◌+◌, List, [], ◌∷◌, ◌++◌, append_assoc, map}
use Rattle.std.proofs.Common.{length, true, false, Option, Some, None, Vec, Global, ap, refl, sym, subst, arith, true≢false}
use Rattle.std.specs.Prelude.{nat_lt, All, nat_le, not, ◌||◌, is_none, sum_by, unwrap_or, option_map, slice_set}
use Rattle.std.specs.List.{list_any}
use Rattle.std.proofs.lemmas.List.{append-nil, map-append}
use Rattle.std.proofs.lemmas.List.Sums.{sum_by-append}
use Rattle.std.proofs.lemmas.List.Elements.{All-nil, All-head, All-tail, All-cons, All-push}
use Rattle.std.proofs.lemmas.Bool.{eqb-true, lt-leb}
use Rattle.lp_lemmas.proofs.Booleans.{or_false_left, or_false_right}
use Rattle.lp_lemmas.proofs.Lists.{append_nil_sym}
use Rattle.lp_lemmas.proofs.Elements.{All_push_parts}
use Rattle.lp_calculus.specs.Types.{Ty, Tys, no_types, types, tys}
use Rattle.lp_calculus.specs.Term.{atom, integer, text}
use Rattle.lp_calculus.specs.Typing.{o_type, int_type, string_type}
use Rattle.lp_code.specs.declared.instruction.Instr.{Instr}
use Rattle.lp_code.specs.declared.instruction.Instr.TheVariants as on
use Rattle.lp_code.specs.declared.rule.Rule.{Rule}
use Rattle.lp_code.specs.declared.rule.Rule.TheVariants as rule
use Rattle.lp_code.specs.Length.{length_of}
use Rattle.lp_code.specs.Operands.{type_set, term_set}
use Rattle.lp_code.specs.Symbolic.{held, types_in, Built, whole, bound_index, application_of, abstraction_of, agree_at, innermost}
use Rattle.lp_code.specs.States.{State, Home, member, depth}
use Rattle.lp_code.specs.Steps.{Later, constant_of, put_term, settled, passed, effect}
use Rattle.lp_code.specs.Rules.{has_count, is_passed}
use Rattle.lp_code.specs.Denote.{broken_by, run}
use Rattle.lp_gen.specs.declared.emitter.Emitter.{Emitter}
use Rattle.lp_gen.specs.Sources.{IsKnownType}
use Rattle.lp_gen.specs.inner.Running.{HasRegisters, TypesStand, HasRoom, Leads, Hold, HoldAll, IsTypePut, AreTypesPut, TermsStand, Moves, HoldTerm}
use Rattle.lp_gen.specs.inner.Owned.{IsPlain}
use Rattle.lp_gen.specs.inner.Running.{IsTermPut, IsKnownConstant, ConstantPut, IntegerPut, TextPut, IndexPut, built_at, AreParts, ApplicationPut, IsBody, AbstractionPut}
use Rattle.lp_gen.proofs.Registers.{fresh_set}
use Rattle.lp_gen.proofs.OwnSet.{plain_none, plain_both}
use Rattle.lp_gen.proofs.Denoting.{or_none, steps, settled_same, room_less, many_set, many_within, held_set, held_below, member_more, none_unset, then_leads, nothing_leads, room_front, room_behind}

-- types one after the other

hold_all_more : (s : State) (rs : List ℕ) (Ts : List Ty) (r : ℕ) (T : Ty) → HoldAll s rs (tys Ts) → Hold s r T → HoldAll s (rs ++ r ∷ []) (tys (Ts ++ T ∷ []))
hold_all_more s [] [] r T a b = (b, tt)
hold_all_more s [] (U ∷ Us) r T a b = absurd a
hold_all_more s (q ∷ rs) [] r T a b = absurd a
hold_all_more s (q ∷ rs) (U ∷ Us) r T a b = (a.0, hold_all_more s rs Us r T a.1 b)

pub hold_all_on : (n : ℕ) (s t : State) (rs : List ℕ) (Ts : List Ty) → ((r : ℕ) → r < n → held t.now.types r ≡ held s.now.types r) → All (λ r. r < n) rs → HoldAll s rs (tys Ts) →
    HoldAll t rs (tys Ts)
hold_all_on n s t [] [] k l a = tt
hold_all_on n s t [] (U ∷ Us) k l a = absurd a
hold_all_on n s t (q ∷ rs) [] k l a = absurd a
hold_all_on n s t (q ∷ rs) (U ∷ Us) k l a = (k q (All-head (λ r. r < n) q rs l) ∙ a.0, hold_all_on n s t rs Us k (All-tail (λ r. r < n) q rs l) a.1)

pub types_held : (s : State) (rs : List ℕ) (Ts : List Ty) → HoldAll s rs (tys Ts) → (types_in s.now rs ≡ Ts) × (length rs ≡ length Ts)
types_held s [] [] a = (refl, refl)
types_held s [] (U ∷ Us) a = absurd a
types_held s (r ∷ rs) [] a = absurd a
types_held s (r ∷ rs) (U ∷ Us) a = let w = types_held s rs Us a.1 in ((λ i. unwrap_or (a.0 i) o_type ∷ w.0 i), ap suc w.1)

pub types_put_none : (e : Emitter) → AreTypesPut e e [] []
types_put_none e = record {
  more = [];
  code_is = append_nil_sym e.code.items;
  registers_stay = refl;
  types_grow = omega arith;
  plain = plain_none;
  denotes = λ h later vars s st low k room. (s, nothing_leads h later vars e.types s [] st refl, tt, All-nil (λ r. r < e.types));
}

pub types_put_more : (a b c : Emitter) (rs : List ℕ) (Ts : List Ty) (r : ℕ) (T : Ty) → AreTypesPut a b rs Ts → IsTypePut b c r T → AreTypesPut a c (rs ++ r ∷ []) (Ts ++ T ∷ [])
types_put_more a b c rs Ts r T x y = record {
  more = x.more ++ y.more;
  code_is = y.code_is ∙ ap (λ l. l ++ y.more) x.code_is ∙ append_assoc a.code.items x.more y.more;
  registers_stay = y.registers_stay ∙ x.registers_stay;
  types_grow = let p = x.types_grow in let q = y.types_grow in omega (arith, p, q);
  plain = plain_both x.more y.more x.plain y.plain;
  denotes = λ h later vars s st low k room.
      let grows = y.types_grow in
      let known = All_push_parts (IsKnownType h.tables.kinds vars) Ts T k in
      let w = x.denotes h later vars s st (omega (arith, grows, low)) known.0 (room_front s (x.more ++ y.more) x.more y.more refl room) in
      let v = y.denotes h later vars w.0 w.1.stands low known.1 (room_behind h later vars a.types b.types s w.0 (x.more ++ y.more) x.more y.more w.1 refl room) in (
        v.0,
        then_leads h later vars a.types b.types c.types s w.0 v.0 x.more y.more w.1 v.1 x.types_grow,
        hold_all_more v.0 rs Ts r T (hold_all_on b.types w.0 v.0 rs Ts v.1.kept w.3 w.2) v.2,
        All-push (λ r. r < c.types) rs r (λ i d l. let q = w.3 i d l in omega (arith, q, grows)) v.3,
      );
}

pub one_type : (a b : Emitter) (r : ℕ) (T : Ty) → IsTypePut a b r T → AreTypesPut a b (r ∷ []) (T ∷ [])
one_type a b r T x = types_put_more a a b [] [] r T (types_put_none a) x

-- types and terms

pub moved : (h : Home) (later : Later) (vars n m k : ℕ) (s t : State) (is : List Instr) → Leads h later vars n m s is t → TermsStand h k s → Moves h later vars n m k k s.now.terms s is t
moved h later vars n m k s t is l ts = record {
  runs = l.runs;
  place_is = l.place_is;
  same = record { in_body = l.same.in_body; head_types = l.same.head_types; head_arguments = l.same.head_arguments; goals = l.same.goals; frames = l.same.frames; assumed = l.same.assumed };
  types_kept = l.kept;
  terms_kept = λ r q. ap (λ xs. held xs r) l.same.terms;
  types_stand = l.stands;
  terms_stand = record {
    as_many = subst (λ xs. HasRegisters xs h.self.registers) (sym l.same.terms) ts.as_many;
    unset = λ r q. ap (member r) l.same.terms_set ∙ ts.unset r q;
    fresh = λ e r q. ap (member r) l.same.terms_set ∙ ts.fresh (sym l.same.in_body ∙ e) r (sym (ap (λ xs. held xs r) l.same.terms) ∙ q);
  };
}

pub then_moves : (h : Home) (later : Later) (vars n m k a b c : ℕ) (xs ys zs : List (Option Built)) (s t u : State) (is js : List Instr) → Moves h later vars n m a b xs s is t →
    Moves h later vars m k b c ys t js u → n ≤ m → a ≤ b → ((r : ℕ) → r < a → held ys r ≡ held zs r) → Moves h later vars n k a c zs s (is ++ js) u
then_moves h later vars n m k a b c xs ys zs s t u is js x y l o same = record {
  runs = λ rest. ap (run h later s) (append_assoc is js rest) ∙ x.runs (js ++ rest) ∙ y.runs rest;
  place_is = let p = x.place_is in let q = y.place_is in let r = sum_by-append length_of is js in omega (arith, p, q, r);
  same = record {
    in_body = y.same.in_body ∙ x.same.in_body;
    head_types = y.same.head_types ∙ x.same.head_types;
    head_arguments = y.same.head_arguments ∙ x.same.head_arguments;
    goals = y.same.goals ∙ x.same.goals;
    frames = y.same.frames ∙ x.same.frames;
    assumed = y.same.assumed ∙ x.same.assumed;
  };
  types_kept = λ r q. y.types_kept r (omega (arith, q, l)) ∙ x.types_kept r q;
  terms_kept = λ r q. y.terms_kept r (omega (arith, q, o)) ∙ same r q;
  types_stand = y.types_stand;
  terms_stand = y.terms_stand;
}

abbrev Puts : Home → Later → (vars types : ℕ) → State → Instr → (register : ℕ) → Built → Type 0
Puts h later vars n s i d b = (t : State) × Moves h later vars n n d (d + 1) s.now.terms s (i ∷ []) t × HoldTerm t d b

-- an instruction that sets a register that was never set, where registers from k on were not
pub put_at : (h : Home) (later : Later) (vars n k l : ℕ) (s : State) (i : Instr) (d : ℕ) (b : Built) → effect h later s i ≡ Some (put_term s d b) → type_set i ≡ [] → term_set i ≡ d ∷ [] →
    0 < length_of i → TypesStand h vars n s → TermsStand h k s → k ≤ l → d < l → d < h.self.registers →
    HasRoom s (s.place + length_of i) → ((rest : List Instr) (r : Rule) → broken_by h s rest i r ≡ false) →
    (t : State) × Moves h later vars n n k l (slice_set s.now.terms d (Some b)) s (i ∷ []) t × HoldTerm t d b
put_at h later vars n k l s i d b eff ts rs long st te more less low room fine = (
  t,
  record {
    runs = λ rest. steps h later s t i rest st.sound (fine rest) (ap (option_map (λ (u : State). settled h.number (depth u.frames) (passed i u))) eff
        ∙ ap (λ (u : State). Some u) (settled_same h.number (depth s.frames) t room));
    place_is = let one : sum_by length_of (i ∷ []) ≡ 0 + length_of i = refl in omega (arith, one);
    same = record { in_body = refl; head_types = refl; head_arguments = refl; goals = refl; frames = refl; assumed = refl };
    types_kept = λ r q. refl;
    terms_kept = λ r q. refl;
    types_stand = record {
      few = st.few;
      own = st.own;
      as_many = st.as_many;
      stand = st.stand;
      unset = λ r q. ap (λ ds. member r (s.types_set ++ ds)) ts ∙ ap (member r) (append-nil s.types_set) ∙ st.unset r q;
      sound = λ e r. let q = eqb-true (s.place + length_of i) 0 e in absurd (omega (arith, q, long));
    };
    terms_stand = record {
      as_many = many_set s.now.terms h.self.registers d b te.as_many low;
      unset = λ r q. ap (λ ds. member r (s.terms_set ++ ds)) rs ∙ member_more r d s.terms_set (te.unset r (omega (arith, q, more))) (omega (arith, q, less));
      fresh = λ e r q. ap (λ ds. member r (s.terms_set ++ ds)) rs ∙ fresh_set s.now.terms s.terms_set d r b within (te.fresh e) q;
    };
  },
  held_set s.now.terms d b within,
)
  where
    t : State
    t = passed i (put_term s d b)

    within : d < length s.now.terms
    within = many_within s.now.terms h.self.registers d te.as_many low

moves_same : (h : Home) (later : Later) (vars n m a b : ℕ) (xs ys : List (Option Built)) (s t : State) (is : List Instr) → Moves h later vars n m a b xs s is t →
    ((r : ℕ) → r < a → held xs r ≡ held ys r) → Moves h later vars n m a b ys s is t
moves_same h later vars n m a b xs ys s t is x same = record {
  runs = x.runs;
  place_is = x.place_is;
  same = x.same;
  types_kept = x.types_kept;
  terms_kept = λ r q. x.terms_kept r q ∙ same r q;
  types_stand = x.types_stand;
  terms_stand = x.terms_stand;
}

-- an instruction that makes a term in the next register
put_moves : (h : Home) (later : Later) (vars n : ℕ) (s : State) (i : Instr) (d : ℕ) (b : Built) → effect h later s i ≡ Some (put_term s d b) → type_set i ≡ [] → term_set i ≡ d ∷ [] →
    0 < length_of i → TypesStand h vars n s → TermsStand h d s → d < h.self.registers →
    HasRoom s (s.place + length_of i) → ((rest : List Instr) (r : Rule) → broken_by h s rest i r ≡ false) → Puts h later vars n s i d b
put_moves h later vars n s i d b eff ts rs long st te low room fine =
    let w = put_at h later vars n d (d + 1) s i d b eff ts rs long st te (omega arith) (omega arith) low room fine in
    (w.0, moves_same h later vars n n d (d + 1) (slice_set s.now.terms d (Some b)) s.now.terms s w.0 (i ∷ []) w.1 (λ r q. held_below s.now.terms d r (Some b) q), w.2)

-- what is read and set
pub types_within : (s : State) (n : ℕ) (rs : List ℕ) (Ts : Tys) → HasRegisters s.now.types n → HoldAll s rs Ts → list_any (λ t. nat_le n t) (rs ++ []) ≡ false
types_within s n [] no_types e a = refl
types_within s n [] (types T Ts) e a = absurd a
types_within s n (r ∷ rs) no_types e a = absurd a
types_within s n (r ∷ rs) (types T Ts) e a = or_none (nat_le n r) (list_any (λ t. nat_le n t) (rs ++ [])) (lt-leb n r (e.inside r T a.0))
    (types_within s n rs Ts e a.1)

pub one_within : (n d : ℕ) → d < n → list_any (λ r. nat_le n r) (d ∷ []) ≡ false
one_within n d l = or_none (nat_le n d) false (lt-leb n d l) refl

pub one_unset : (h : Home) (d : ℕ) (s : State) → TermsStand h d s → list_any (λ r. member r s.terms_set) (d ∷ []) ≡ false
one_unset h d s te = or_none (member d s.terms_set) false (te.unset d (omega arith)) refl

pub no_sides : (s : State) → HasRoom s s.place → (list_any (is_passed s.place) s.frames || false) ≡ false
no_sides s room = or_none (list_any (is_passed s.place) s.frames) false room refl

const_fine : (h : Home) (vars n : ℕ) (s : State) (d c : ℕ) (v : Vec ℕ Global) (Ts : List Ty) → TypesStand h vars n s → TermsStand h d s → d < h.self.registers → HoldAll s v.items (tys Ts) →
    IsKnownConstant h vars c Ts → HasRoom s s.place → (rest : List Instr) (r : Rule) →
    broken_by h s rest (on.PutConst d c v) r ≡ false
const_fine h vars n s d c v Ts st te low a k room rest rule.Register =
    or_none (list_any (λ t. nat_le h.self.types t) (v.items ++ [])) (list_any (λ r. nat_le h.self.registers r) (d ∷ [])) (types_within s h.self.types v.items (tys Ts) st.as_many a)
    (one_within h.self.registers d low)
const_fine h vars n s d c v Ts st te low a k room rest rule.Unset = or_none (list_any (λ t. is_none (held s.now.types t)) v.items) false (none_unset s v.items (tys Ts) a) refl
const_fine h vars n s d c v Ts st te low a k room rest rule.Set = one_unset h d s te
const_fine h vars n s d c v Ts st te low a k room rest rule.Constant = ap (λ m. not (has_count (h.tables.constants c) m)) (types_held s v.items Ts a).1 ∙ ap (λ b. not b) k.declared
const_fine h vars n s d c v Ts st te low a k room rest rule.Typing = refl
const_fine h vars n s d c v Ts st te low a k room rest rule.Index = refl
const_fine h vars n s d c v Ts st te low a k room rest rule.Term = k.in_terms
const_fine h vars n s d c v Ts st te low a k room rest rule.Order = refl
const_fine h vars n s d c v Ts st te low a k room rest rule.Head = refl
const_fine h vars n s d c v Ts st te low a k room rest rule.Block = no_sides s room
const_fine h vars n s d c v Ts st te low a k room rest rule.Clause = refl
const_fine h vars n s d c v Ts st te low a k room rest rule.Key = refl

int_fine : (h : Home) (s : State) (d : ℕ) (z : ℤ) → TermsStand h d s → d < h.self.registers → HasRoom s s.place → (rest : List Instr) (r : Rule) → broken_by h s rest (on.PutInt d z) r ≡ false
int_fine h s d z te low room rest rule.Register = one_within h.self.registers d low
int_fine h s d z te low room rest rule.Unset = refl
int_fine h s d z te low room rest rule.Set = one_unset h d s te
int_fine h s d z te low room rest rule.Constant = refl
int_fine h s d z te low room rest rule.Typing = refl
int_fine h s d z te low room rest rule.Index = refl
int_fine h s d z te low room rest rule.Term = refl
int_fine h s d z te low room rest rule.Order = refl
int_fine h s d z te low room rest rule.Head = refl
int_fine h s d z te low room rest rule.Block = no_sides s room
int_fine h s d z te low room rest rule.Clause = refl
int_fine h s d z te low room rest rule.Key = refl

text_fine : (h : Home) (s : State) (d : ℕ) (v : Vec ℕ Global) → TermsStand h d s → d < h.self.registers → HasRoom s s.place → (rest : List Instr) (r : Rule) →
    broken_by h s rest (on.PutStr d v) r ≡ false
text_fine h s d v te low room rest rule.Register = one_within h.self.registers d low
text_fine h s d v te low room rest rule.Unset = refl
text_fine h s d v te low room rest rule.Set = one_unset h d s te
text_fine h s d v te low room rest rule.Constant = refl
text_fine h s d v te low room rest rule.Typing = refl
text_fine h s d v te low room rest rule.Index = refl
text_fine h s d v te low room rest rule.Term = refl
text_fine h s d v te low room rest rule.Order = refl
text_fine h s d v te low room rest rule.Head = refl
text_fine h s d v te low room rest rule.Block = no_sides s room
text_fine h s d v te low room rest rule.Clause = refl
text_fine h s d v te low room rest rule.Key = refl

index_fine : (h : Home) (vars n : ℕ) (s : State) (d i q : ℕ) (T : Ty) → TypesStand h vars n s → TermsStand h d s → d < h.self.registers → Hold s q T → HasRoom s s.place →
    (rest : List Instr) (r : Rule) → broken_by h s rest (on.PutIndex d i q) r ≡ false
index_fine h vars n s d i q T st te low a room rest rule.Register =
    or_none (list_any (λ t. nat_le h.self.types t) (q ∷ [])) (list_any (λ r. nat_le h.self.registers r) (d ∷ [])) (types_within s h.self.types (q ∷ []) (types T no_types) st.as_many
    (a, tt)) (one_within h.self.registers d low)
index_fine h vars n s d i q T st te low a room rest rule.Unset = or_none (list_any (λ t. is_none (held s.now.types t)) (q ∷ [])) false (none_unset s (q ∷ []) (types T no_types) (a, tt)) refl
index_fine h vars n s d i q T st te low a room rest rule.Set = one_unset h d s te
index_fine h vars n s d i q T st te low a room rest rule.Constant = refl
index_fine h vars n s d i q T st te low a room rest rule.Typing = refl
index_fine h vars n s d i q T st te low a room rest rule.Index = refl
index_fine h vars n s d i q T st te low a room rest rule.Term = refl
index_fine h vars n s d i q T st te low a room rest rule.Order = refl
index_fine h vars n s d i q T st te low a room rest rule.Head = refl
index_fine h vars n s d i q T st te low a room rest rule.Block = no_sides s room
index_fine h vars n s d i q T st te low a room rest rule.Clause = refl
index_fine h vars n s d i q T st te low a room rest rule.Key = refl

-- terms that are read
pub set_within : {A : Type 0} (xs : List (Option A)) (n r : ℕ) → HasRegisters xs n → is_none (held xs r) ≡ false → r < n
set_within {A} xs n r m e = by_case (held xs r) refl
  where
    by_case : (o : Option A) → held xs r ≡ o → r < n
    by_case None f = absurd (true≢false (sym (ap is_none f) ∙ e))
    by_case (Some x) f = m.inside r x f

terms_within : (xs : List (Option Built)) (n d : ℕ) (rs : List ℕ) → HasRegisters xs n → list_any (λ r. is_none (held xs r)) rs ≡ false → d < n → list_any (λ r. nat_le n r) (rs ++ d ∷ []) ≡ false
terms_within xs n d [] e u l = one_within n d l
terms_within xs n d (r ∷ rs) e u l =
    or_none (nat_le n r) (list_any (λ r. nat_le n r) (rs ++ d ∷ [])) (lt-leb n r (set_within xs n r e (or_false_left (is_none (held xs r)) (list_any (λ r. is_none (held xs r)) rs) u)))
    (terms_within xs n d rs e (or_false_right (is_none (held xs r)) (list_any (λ r. is_none (held xs r)) rs) u) l)

app_fine : (h : Home) (s : State) (d f : ℕ) (v : Vec ℕ Global) → TermsStand h d s → d < h.self.registers → AreParts s.now.terms f v.items → HasRoom s s.place →
    (rest : List Instr) (r : Rule) → broken_by h s rest (on.PutApp d f v) r ≡ false
app_fine h s d f v te low a room rest rule.Register = terms_within s.now.terms h.self.registers d (f ∷ v.items) te.as_many (or_none (is_none (held s.now.terms f)) (list_any (λ r. is_none
    (held s.now.terms r)) v.items) a.head_set a.args_set) low
app_fine h s d f v te low a room rest rule.Unset = or_none (is_none (held s.now.terms f)) (list_any (λ r. is_none (held s.now.terms r)) v.items) a.head_set a.args_set
app_fine h s d f v te low a room rest rule.Set = one_unset h d s te
app_fine h s d f v te low a room rest rule.Constant = refl
app_fine h s d f v te low a room rest rule.Typing = ap (λ b. not b) a.fit
app_fine h s d f v te low a room rest rule.Index = refl
app_fine h s d f v te low a room rest rule.Term = refl
app_fine h s d f v te low a room rest rule.Order = refl
app_fine h s d f v te low a room rest rule.Head = refl
app_fine h s d f v te low a room rest rule.Block = no_sides s room
app_fine h s d f v te low a room rest rule.Clause = refl
app_fine h s d f v te low a room rest rule.Key = refl

abs_fine : (h : Home) (vars n : ℕ) (s : State) (d b q : ℕ) (T : Ty) → TypesStand h vars n s → TermsStand h d s → d < h.self.registers → Hold s q T → IsBody h vars s.now.terms b T →
    HasRoom s s.place → (rest : List Instr) (r : Rule) → broken_by h s rest (on.PutAbs d b q) r ≡ false
abs_fine h vars n s d b q T st te low a k room rest rule.Register =
    or_none (list_any (λ t. nat_le h.self.types t) (q ∷ [])) (list_any (λ r. nat_le h.self.registers r) ((b ∷ []) ++ d ∷ [])) (types_within s h.self.types (q ∷ [])
    (types T no_types) st.as_many (a, tt))
    (terms_within s.now.terms h.self.registers d (b ∷ []) te.as_many (or_none (is_none (held s.now.terms b)) false k.body_set refl) low)
abs_fine h vars n s d b q T st te low a k room rest rule.Unset =
    or_none (list_any (λ t. is_none (held s.now.types t)) (q ∷ [])) (is_none (held s.now.terms b) || false) (none_unset s (q ∷ []) (types T no_types) (a, tt)) (or_none (is_none
    (held s.now.terms b)) false k.body_set refl)
abs_fine h vars n s d b q T st te low a k room rest rule.Set = one_unset h d s te
abs_fine h vars n s d b q T st te low a k room rest rule.Constant = refl
abs_fine h vars n s d b q T st te low a k room rest rule.Typing = ap (λ o. not (agree_at (innermost (built_at s.now.terms b).loose) (Some (unwrap_or o o_type)))) a ∙ ap (λ x. not x) k.fits
abs_fine h vars n s d b q T st te low a k room rest rule.Index = refl
abs_fine h vars n s d b q T st te low a k room rest rule.Term = refl
abs_fine h vars n s d b q T st te low a k room rest rule.Order = refl
abs_fine h vars n s d b q T st te low a k room rest rule.Head = refl
abs_fine h vars n s d b q T st te low a k room rest rule.Block = no_sides s room
abs_fine h vars n s d b q T st te low a k room rest rule.Clause = refl
abs_fine h vars n s d b q T st te low a k room rest rule.Key = refl

-- types are put, and then one instruction
record IsPushed (mid new : Emitter) (i : Instr) : Type 0 where
  code : new.code.items ≡ mid.code.items ++ i ∷ []
  types : new.types ≡ mid.types
  registers : new.registers ≡ mid.registers + 1
  plain : IsPlain (i ∷ [])

last_put : (old mid new : Emitter) (i : Instr) (rs : List ℕ) (Ts : List Ty) (asks : Home → ℕ → List (Option Built) → Type 0) (built : Home → List (Option Built) → Built) →
    AreTypesPut old mid rs Ts → IsPushed mid new i → ((h : Home) (vars : ℕ) (xs : List (Option Built)) → asks h vars xs → All (IsKnownType h.tables.kinds vars) Ts) →
    ((h : Home) (later : Later) (vars : ℕ) (s : State) → TypesStand h vars mid.types s → TermsStand h mid.registers s → mid.registers < h.self.registers → HoldAll s rs (tys Ts) →
    asks h vars s.now.terms → HasRoom s (s.place + length_of i) → HasRoom s s.place → Puts h later vars mid.types s i mid.registers (built h s.now.terms)) →
    IsTermPut old new mid.registers asks built
last_put old mid new i rs Ts asks built x p known does = record {
  more = x.more ++ i ∷ [];
  code_is = p.code ∙ ap (λ l. l ++ i ∷ []) x.code_is ∙ append_assoc old.code.items x.more (i ∷ []);
  types_grow = let q = x.types_grow in let e = p.types in omega (arith, q, e);
  terms_grow = let q = x.registers_stay in let e = p.registers in omega (arith, q, e);
  plain = plain_both x.more (i ∷ []) x.plain p.plain;
  denotes = λ h later vars s st te low few k room.
      let types = p.types in
      let registers = p.registers in
      let stay = x.registers_stay in
      let w = x.denotes h later vars s st (omega (arith, low, types)) (known h vars s.now.terms k) (room_front s (x.more ++ i ∷ []) x.more (i ∷ []) refl room) in
      let one : sum_by length_of (i ∷ []) ≡ 0 + length_of i = refl in
      let all = room_behind h later vars old.types mid.types s w.0 (x.more ++ i ∷ []) x.more (i ∷ []) w.1 refl room in
      let wide : HasRoom w.0 (w.0.place + length_of i) = room_less (w.0.place + length_of i) (w.0.place + sum_by length_of (i ∷ [])) w.0.frames (omega (arith, one)) all in
      let here : HasRoom w.0 w.0.place = room_less w.0.place (w.0.place + length_of i) w.0.frames (omega arith) wide in
      let front : Moves h later vars old.types mid.types mid.registers mid.registers s.now.terms s x.more w.0 = subst
      (λ k. Moves h later vars old.types mid.types k k s.now.terms s x.more w.0) (sym stay)
      (moved h later vars old.types mid.types old.registers s w.0 x.more w.1 te) in
      let v = does h later vars w.0 w.1.stands front.terms_stand (omega (arith, few, registers)) w.2 (subst (λ xs. asks h vars xs) (sym w.1.same.terms) k) wide here in
      let both = then_moves h later vars old.types mid.types mid.types mid.registers mid.registers (mid.registers + 1) s.now.terms w.0.now.terms s.now.terms s w.0 v.0 x.more (i ∷ []) front v.1
      x.types_grow (omega arith) front.terms_kept in (
        v.0,
        subst (λ k. Moves h later vars old.types new.types k new.registers s.now.terms s (x.more ++ i ∷ []) v.0) stay (subst (λ n. Moves h later vars old.types n mid.registers
            new.registers s.now.terms s (x.more ++ i ∷ []) v.0) (sym types) (subst (λ n. Moves h later vars old.types mid.types mid.registers n
            s.now.terms s (x.more ++ i ∷ []) v.0) (sym registers) both)),
        subst
            (λ xs. HoldTerm v.0 mid.registers (built h xs)) w.1.same.terms v.2,
        omega (arith, registers),
      );
}

pub constant_put : (old mid then_ new : Emitter) (c d : ℕ) (v : Vec ℕ Global) (Ts : List Ty) → AreTypesPut old mid v.items Ts → d ≡ mid.registers → then_.code.items ≡ mid.code.items →
    then_.types ≡ mid.types → then_.registers ≡ mid.registers + 1 →
    new.code.items ≡ then_.code.items ++ on.PutConst d c v ∷ [] → new.types ≡ then_.types → new.registers ≡ then_.registers → ConstantPut old new d c Ts
constant_put old mid then_ new c d v Ts x r a b e f g j =
    subst (λ d. ConstantPut old new d c Ts) (sym r) (last_put old mid new (on.PutConst mid.registers c v) v.items Ts (λ h vars xs. IsKnownConstant h vars c Ts)
    (λ h xs. constant_of h.tables c Ts) x
    (record {
      code = f ∙ ap (λ l. l ++ on.PutConst d c v ∷ []) a ∙ ap (λ d. mid.code.items ++ on.PutConst d c v ∷ []) r;
      types = g ∙ b;
      registers = j
          ∙ e;
      plain = record { no_own = refl; no_types = refl };
    }) (λ h vars xs k. k.known)
    (λ h later vars s st te low held k wide here. put_moves h later vars mid.types s (on.PutConst mid.registers c v) mid.registers (constant_of h.tables c Ts) (ap (λ us. Some
    (put_term s mid.registers (constant_of h.tables c us))) (types_held s v.items Ts held).0) refl refl (omega arith) st te low wide
    (const_fine h vars mid.types s mid.registers c v Ts st te low held k here)))

pub integer_put : (old then_ new : Emitter) (d : ℕ) (z : ℤ) → d ≡ old.registers → then_.code.items ≡ old.code.items → then_.types ≡ old.types → then_.registers ≡ old.registers + 1 →
    new.code.items ≡ then_.code.items ++ on.PutInt d z ∷ [] → new.types ≡ then_.types → new.registers ≡ then_.registers → IntegerPut old new d z
integer_put old then_ new d z r a b e f g j =
    subst (λ d. IntegerPut old new d z) (sym r) (last_put old old new (on.PutInt old.registers z) [] [] (λ h vars xs. Unit {0}) (λ h xs. whole (atom (integer z)) int_type) (types_put_none old)
    (record {
      code = f ∙ ap (λ l. l ++ on.PutInt d z ∷ []) a ∙ ap (λ d. old.code.items ++ on.PutInt d z ∷ []) r;
      types = g ∙ b;
      registers = j
          ∙ e;
      plain = record { no_own = refl; no_types = refl };
    }) (λ h vars xs k. All-nil (IsKnownType h.tables.kinds vars))
    (λ h later vars s st te low held k wide here. put_moves h later vars old.types s (on.PutInt old.registers z) old.registers (whole (atom (integer z)) int_type) refl refl refl
    (omega arith) st te low wide (int_fine h s old.registers z te low here)))

pub text_put : (old then_ new : Emitter) (d : ℕ) (v : Vec ℕ Global) (bytes : List ℕ) → v.items ≡ bytes → d ≡ old.registers → then_.code.items ≡ old.code.items → then_.types ≡ old.types →
    then_.registers ≡ old.registers + 1 → new.code.items ≡ then_.code.items ++ on.PutStr d v ∷ [] → new.types ≡ then_.types → new.registers ≡ then_.registers → TextPut old new d bytes
text_put old then_ new d v bytes is r a b e f g j =
    subst (λ d. TextPut old new d bytes) (sym r) (last_put old old new (on.PutStr old.registers v) [] [] (λ h vars xs. nat_lt (length bytes) 65536 ≡ true) (λ h xs. whole (atom (text bytes)) string_type)
    (types_put_none old)
    (record {
      code = f ∙ ap (λ l. l ++ on.PutStr d v ∷ []) a ∙ ap (λ d. old.code.items ++ on.PutStr d v ∷ []) r;
      types = g ∙ b;
      registers = j
          ∙ e;
      plain = record { no_own = refl; no_types = refl };
    }) (λ h vars xs k. All-nil (IsKnownType h.tables.kinds vars))
    (λ h later vars s st te low held k wide here. put_moves h later vars old.types s (on.PutStr old.registers v) old.registers (whole (atom (text bytes)) string_type) (ap (λ b. Some
    (put_term s old.registers (whole (atom (text b)) string_type))) is) refl refl (omega arith) st te low wide
    (text_fine h s old.registers v te low here)))

-- a string that was cut, where it is too long
pub string_cut : (old new : Emitter) (d : ℕ) (t b : List ℕ) → (nat_lt (length b) 65536 ≡ true → t ≡ b) → TextPut old new d t → TextPut old new d b
string_cut old new d t b same x = record {
  more = x.more;
  code_is = x.code_is;
  types_grow = x.types_grow;
  terms_grow = x.terms_grow;
  plain = x.plain;
  denotes = λ h later vars s st te few low short room.
      subst (λ l. (u : State) × Moves h later vars old.types new.types old.registers new.registers s.now.terms s x.more u × HoldTerm u d (whole (atom (text l)) string_type) × (d < new.registers))
      (same short) (x.denotes h later vars s st te few low (subst (λ l. nat_lt (length l) 65536 ≡ true) (sym (same short)) short) room);
}

pub index_put : (old mid then_ new : Emitter) (d i q : ℕ) (T : Ty) → IsTypePut old mid q T → d ≡ mid.registers → then_.code.items ≡ mid.code.items → then_.types ≡ mid.types →
    then_.registers ≡ mid.registers + 1 →
    new.code.items ≡ then_.code.items ++ on.PutIndex d i q ∷ [] → new.types ≡ then_.types → new.registers ≡ then_.registers → IndexPut old new d i T
index_put old mid then_ new d i q T x r a b e f g j =
    subst (λ d. IndexPut old new d i T) (sym r) (last_put old mid new (on.PutIndex mid.registers i q) (q ∷ []) (T ∷ []) (λ h vars xs. IsKnownType h.tables.kinds vars T)
    (λ h xs. bound_index i T) (one_type old mid q T x)
    (record {
      code = f ∙ ap (λ l. l ++ on.PutIndex d i q ∷ []) a ∙ ap (λ d. mid.code.items ++ on.PutIndex d i q ∷ []) r;
      types = g ∙ b;
      registers = j
          ∙ e;
      plain = record { no_own = refl; no_types = refl };
    }) (λ h vars xs k. All-cons (IsKnownType h.tables.kinds vars) T [] k (All-nil (IsKnownType h.tables.kinds vars)))
    (λ h later vars s st te low held k wide here. put_moves h later vars mid.types s (on.PutIndex mid.registers i q) mid.registers (bound_index i T) (ap (λ o. Some
    (put_term s mid.registers (bound_index i (unwrap_or o o_type)))) held.0) refl refl (omega arith) st te low wide
    (index_fine h vars mid.types s mid.registers i q T st te low held.0 here)))

pub application_put : (old then_ new : Emitter) (d f : ℕ) (v : Vec ℕ Global) → d ≡ old.registers → then_.code.items ≡ old.code.items → then_.types ≡ old.types →
    then_.registers ≡ old.registers + 1 → new.code.items ≡ then_.code.items ++ on.PutApp d f v ∷ [] → new.types ≡ then_.types → new.registers ≡ then_.registers →
    ApplicationPut old new d f v.items
application_put old then_ new d f v r a b e c g j =
    subst (λ d. ApplicationPut old new d f v.items) (sym r) (last_put old old new (on.PutApp old.registers f v) [] [] (λ h vars xs. AreParts xs f v.items) (λ h xs. application_of
    (built_at xs f) (map (built_at xs) v.items)) (types_put_none old)
    (record {
      code = c ∙ ap (λ l. l ++ on.PutApp d f v ∷ []) a ∙ ap (λ d. old.code.items ++ on.PutApp d f v ∷ []) r;
      types = g ∙ b;
      registers = j
          ∙ e;
      plain = record { no_own = refl; no_types = refl };
    }) (λ h vars xs k. All-nil (IsKnownType h.tables.kinds vars))
    (λ h later vars s st te low held k wide here. put_moves h later vars old.types s (on.PutApp old.registers f v) old.registers (application_of (built_at s.now.terms f) (map
    (built_at s.now.terms) v.items)) refl refl refl (omega arith) st te low wide (app_fine h s old.registers f v te low k here)))

pub abstraction_put : (old mid then_ new : Emitter) (d b q : ℕ) (T : Ty) → IsTypePut old mid q T → d ≡ mid.registers → then_.code.items ≡ mid.code.items → then_.types ≡ mid.types →
    then_.registers ≡ mid.registers + 1 →
    new.code.items ≡ then_.code.items ++ on.PutAbs d b q ∷ [] → new.types ≡ then_.types → new.registers ≡ then_.registers → AbstractionPut old new d b T
abstraction_put old mid then_ new d b q T x r a t e f g j =
    subst (λ d. AbstractionPut old new d b T) (sym r) (last_put old mid new (on.PutAbs mid.registers b q) (q ∷ []) (T ∷ []) (λ h vars xs. IsBody h vars xs b T) (λ h xs. abstraction_of
    (built_at xs b) T) (one_type old mid q T x)
    (record {
      code = f ∙ ap (λ l. l ++ on.PutAbs d b q ∷ []) a ∙ ap (λ d. mid.code.items ++ on.PutAbs d b q ∷ []) r;
      types = g ∙ t;
      registers = j
          ∙ e;
      plain = record { no_own = refl; no_types = refl };
    }) (λ h vars xs k. All-cons (IsKnownType h.tables.kinds vars) T [] k.known (All-nil (IsKnownType h.tables.kinds vars)))
    (λ h later vars s st te low held k wide here. put_moves h later vars mid.types s (on.PutAbs mid.registers b q) mid.registers (abstraction_of (built_at s.now.terms b) T) (ap (λ o. Some
    (put_term s mid.registers (abstraction_of (built_at s.now.terms b) (unwrap_or o o_type)))) held.0) refl refl (omega arith) st te low wide
    (abs_fine h vars mid.types s mid.registers b q T st te low held.0 k here)))

pub types_put_next : {A : Type 0} (f : A → Ty) (a b c : Emitter) (rs all : List ℕ) (xs : List A) (x : A) (r : ℕ) → all ≡ rs ++ r ∷ [] → AreTypesPut a b rs (map f xs) →
    IsTypePut b c r (f x) → AreTypesPut a c all (map f (xs ++ x ∷ []))
types_put_next f a b c rs all xs x r e p q = subst (λ l. AreTypesPut a c l (map f (xs ++ x ∷ []))) (sym e) (subst (AreTypesPut a c (rs ++ r ∷ [])) (sym (map-append f xs (x ∷ [])))
    (types_put_more a b c rs (map f xs) r (f x) p q))
