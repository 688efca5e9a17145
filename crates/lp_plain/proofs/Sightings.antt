-- A look that finds numbers on its way finds exactly those that stand in what is given.
use Rattle.std.proofs.Common.{◌≡◌, ℕ, ◌-◌, ◌<◌, ◌≤◌, List, [], ◌∷◌, ◌++◌, inl, inr, refl, sym, ap, ◌∙◌, arith, append-nil, Bool, true, false, true≢false}
use Rattle.std.specs.Prelude.{◌⊎◌, ◌≢◌, nat_eq, if◌then◌else◌}
use Rattle.std.specs.List.{list_any, IsDistinct}
use Rattle.std.proofs.lemmas.Bool.{cases_eq, ne_eqb, eq-eqb, lt-ltb, le-ltb}
use Rattle.std.proofs.lemmas.Bool.Decides.{Decides-eqb, Decides-and}
use Rattle.indexmap.specs.IndexSet.{contains}
use Rattle.lp_calculus.specs.Types.{var}
use Rattle.lp_calculus.specs.Term.{index}
use Rattle.lp_term.specs.Nodes.{Nodes, type_tree, tree}
use Rattle.lp_plain.specs.Collected.{is_in}
use Rattle.lp_plain.specs.declared.below.Below.{Below}
use Rattle.lp_plain.specs.declared.free.Free.{Free}
use Rattle.lp_plain.specs.declared.free.Walk.{Walk}
use Rattle.lp_plain.specs.contracts.below.BelowPartialEq.TheImpl as compared
use Rattle.lp_plain.specs.inner.Looking.{weight_of_all}
use Rattle.lp_plain.specs.inner.Collecting.{Sought, Variable, TypeVariable, Piece, in_goals, in_clauses, in_term, in_type, number_of, told_of, told_in, stands, goal_weight, piece_weight, IsPutFor, has, found_of, place, is_marked, IsSeen, IsOpened, IsSought}
use Rattle.lp_model.specs.Flat.{Goal, Atomic, Cut, Either, Exists, Forall, Assume, Not, no_goals, goals, clause, no_clauses, clauses}
use Rattle.lp_plain.proofs.Looks.{some_true, begun, passed, opened, given_passes, ended}
use Rattle.lp_plain.proofs.OpenNodes.{or_none, type_weighs, term_weighs}

goal_weighs : (g : Goal) → 0 < goal_weight g
goal_weighs (Atomic t) = omega arith
goal_weighs Cut = omega arith
goal_weighs (Either l r) = omega arith
goal_weighs (Exists T gs) = omega arith
goal_weighs (Forall T gs) = omega arith
goal_weighs (Assume w cs gs) = omega arith
goal_weighs (Not w gs) = omega arith

pub piece_weighs : (b : Nodes) (p : Piece) → 0 < piece_weight b p
piece_weighs b (in_goals d no_goals) = omega arith
piece_weighs b (in_goals d (goals g gs)) = let l = goal_weighs g in omega (arith, l)
piece_weighs b (in_clauses d no_clauses) = omega arith
piece_weighs b (in_clauses d (clauses (clause n vs h gs) cs)) = omega arith
piece_weighs b (in_term d n) = term_weighs (tree b n)
piece_weighs b (in_type n) = type_weighs (type_tree b n)

pub same_found : (old new : Walk) → new.variables ≡ old.variables → new.type_variables ≡ old.type_variables → (x : Sought) → has new x ≡ has old x
same_found old new v t (Variable n) = ap (λ s. contains nat_eq s n) v
same_found old new v t (TypeVariable n) = ap (λ s. contains nat_eq s n) t

pub same_marks : (old new : Walk) → new.terms ≡ old.terms → new.types ≡ old.types → (i : Piece) → is_marked new i ≡ is_marked old i
same_marks old new s t (in_goals d gs) = refl
same_marks old new s t (in_clauses d cs) = refl
same_marks old new s t (in_term d n) = ap (λ k. contains (compared.ghosts).eq k (place d n)) s
same_marks old new s t (in_type n) = ap (λ k. contains nat_eq k n) t

-- what is put for a piece opens it
pub put_opens : (b : Nodes) (old new : Walk) (n : Piece) → new.variables ≡ old.variables → new.type_variables ≡ old.type_variables → new.terms ≡ old.terms → new.types ≡ old.types → IsPutFor b old.left.items new.left.items n → IsOpened b old new n
put_opens b old new n v w s t k = record {
  parts = k.parts;
  more = k.more;
  lighter = k.lighter;
  seen = λ x. inr (same_found old new v w x, k.passes x);
  marks = same_marks old new s t;
}

pub nothing_found : (w : Walk) → w.variables.keys ≡ [] → w.type_variables.keys ≡ [] → (x : Sought) → has w x ≡ false
nothing_found w v t (Variable n) = ap (list_any (nat_eq n)) v
nothing_found w v t (TypeVariable n) = ap (list_any (nat_eq n)) t

pub nothing_marked : (w : Walk) → w.terms.keys ≡ [] → w.types.keys ≡ [] → (i : Piece) → is_marked w i ≡ false
nothing_marked w s t (in_goals d gs) = refl
nothing_marked w s t (in_clauses d cs) = refl
nothing_marked w s t (in_term d n) = ap (list_any ((compared.ghosts).eq (place d n))) s
nothing_marked w s t (in_type n) = ap (list_any (nat_eq n)) t

-- a variable

one_number : (n m : ℕ) → n ≡ m → is_in n (m ∷ []) ≡ true
one_number n m e = or_none (nat_eq n m) ∙ eq-eqb n m e

other_number : (n m : ℕ) → n ≢ m → is_in n (m ∷ []) ≡ false
other_number n m e = or_none (nat_eq n m) ∙ ne_eqb n m e

-- a number is put among those found: it is the one that is looked for, or what was found before is found
put_number : (n m : ℕ) (seen now : ℕ → Bool) (P : Bool) → ((q : ℕ) → now q ≡ (if nat_eq n q then true else seen q)) → P ≡ is_in m (n ∷ []) → ((now m ≡ true) × (P ≡ true)) ⊎ ((now m ≡ seen m) × (P ≡ false))
put_number n m seen now P e h = elim (cases_eq n m) [
  | inl q ↦ inl (e m ∙ ap (λ c. if c then true else seen m) (eq-eqb n m q), h ∙ one_number m n (sym q))
  | inr q ↦ inr (e m ∙ ap (λ c. if c then true else seen m) (ne_eqb n m q), h ∙ other_number m n (λ z. q (sym z)))
]

pub index_bound : (b : Nodes) (w : Walk) (d i n : ℕ) → tree b n ≡ index i → i < d → IsOpened b w w (in_term d n)
index_bound b w d i n e l = record { parts = []; more = sym (append-nil w.left.items); lighter = term_weighs (tree b n); seen = λ x. inr (refl, by x); marks = λ j. refl }
  where
    by : (x : Sought) → stands b x (in_term d n) ≡ false
    by (Variable m) = ap (λ t. is_in m (told_of (Variable m) d t)) e ∙ ap (λ c. is_in m (if c then [] else (i - d) ∷ [])) (lt-ltb i d l)
    by (TypeVariable m) = ap (λ t. is_in m (told_of (TypeVariable m) d t)) e

pub index_found : (b : Nodes) (old new : Walk) (d i n : ℕ) → tree b n ≡ index i → d ≤ i → ((q : ℕ) → contains nat_eq new.variables q ≡ (if nat_eq (i - d) q then true else contains nat_eq old.variables q)) →
    new.left ≡ old.left → new.type_variables ≡ old.type_variables → new.terms ≡ old.terms → new.types ≡ old.types → IsOpened b old new (in_term d n)
index_found b old new d i n e l u f w s t = record { parts = []; more = ap (λ v. v.items) f ∙ sym (append-nil old.left.items); lighter = term_weighs (tree b n); seen = by; marks = same_marks old new s t }
  where
    by : (x : Sought) → IsSeen (has old x) (has new x) (stands b x) (in_term d n) []
    by (Variable m) = put_number (i - d) m (contains nat_eq old.variables) (contains nat_eq new.variables) _ u (ap (λ t. is_in m (told_of (Variable m) d t)) e ∙ ap (λ c. is_in m (if c then [] else (i - d) ∷ [])) (le-ltb i d l))
    by (TypeVariable m) = inr (ap (λ s. contains nat_eq s m) w, ap (λ t. is_in m (told_of (TypeVariable m) d t)) e)

pub variable_found : (b : Nodes) (old new : Walk) (y n : ℕ) → type_tree b n ≡ var y → ((q : ℕ) → contains nat_eq new.type_variables q ≡ (if nat_eq y q then true else contains nat_eq old.type_variables q)) →
    new.left ≡ old.left → new.variables ≡ old.variables → new.terms ≡ old.terms → new.types ≡ old.types → IsOpened b old new (in_type n)
variable_found b old new y n e u f w s t = record { parts = []; more = ap (λ v. v.items) f ∙ sym (append-nil old.left.items); lighter = type_weighs (type_tree b n); seen = by; marks = same_marks old new s t }
  where
    by : (x : Sought) → IsSeen (has old x) (has new x) (stands b x) (in_type n) []
    by (Variable m) = inr (ap (λ s. contains nat_eq s m) w, ap (λ T. is_in m (told_in (Variable m) T)) e)
    by (TypeVariable m) = put_number y m (contains nat_eq old.type_variables) (contains nat_eq new.type_variables) _ u (ap (λ T. is_in m (told_in (TypeVariable m) T)) e)

-- marks

same_place : (c n d m : ℕ) → (compared.ghosts).eq (place c n) (place d m) ≡ true → in_term d m ≡ in_term c n
same_place c n d m e =
    let both = Decides-and (nat_eq n m) (nat_eq c d) (Decides-eqb n m) (Decides-eqb c d) in
    let h = both.0 e in
    sym (λ i. in_term (h.1 i) (h.0 i))

one_mark : (test seen now : Bool) (P : Type 0) → now ≡ (if test then true else seen) → now ≡ true → (test ≡ true → P) → P ⊎ (seen ≡ true)
one_mark true seen now P e m h = inl (h refl)
one_mark false seen now P e m h = inr (sym e ∙ m)

pub term_marked : (old new : Walk) (t d : ℕ) → ((q : Below) → contains (compared.ghosts).eq new.terms q ≡ (if (compared.ghosts).eq (place d t) q then true else contains (compared.ghosts).eq old.terms q)) → new.types ≡ old.types →
    (i : Piece) → is_marked new i ≡ true → (i ≡ in_term d t) ⊎ (is_marked old i ≡ true)
term_marked old new t d u s (in_goals e gs) m = inr m
term_marked old new t d u s (in_clauses e cs) m = inr m
term_marked old new t d u s (in_term e n) m = one_mark ((compared.ghosts).eq (place d t) (place e n)) _ _ (in_term e n ≡ in_term d t) (u (place e n)) m (same_place d t e n)
term_marked old new t d u s (in_type n) m = inr (sym (ap (λ k. contains nat_eq k n) s) ∙ m)

pub type_marked : (old new : Walk) (t : ℕ) → ((q : ℕ) → contains nat_eq new.types q ≡ (if nat_eq t q then true else contains nat_eq old.types q)) → new.terms ≡ old.terms →
    (i : Piece) → is_marked new i ≡ true → (i ≡ in_type t) ⊎ (is_marked old i ≡ true)
type_marked old new t u s (in_goals e gs) m = inr m
type_marked old new t u s (in_clauses e cs) m = inr m
type_marked old new t u s (in_term e n) m = inr (sym (ap (λ k. contains (compared.ghosts).eq k (place e n)) s) ∙ m)
type_marked old new t u s (in_type n) m = one_mark (nat_eq t n) _ _ (in_type n ≡ in_type t) (u n) m (λ e. ap in_type (sym ((Decides-eqb t n).0 e)))

-- the look as a whole

pub sought_first : {N : Type 0} (found : Bool) (P : N → Bool) (w : N → ℕ) (given left : List N) (seen : N → Bool) → found ≡ false → left ≡ given → ((n : N) → seen n ≡ false) → IsSought found P w given left seen
sought_first found P w given left seen f e h = inr (f, begun P w given left seen e (λ n s p. true≢false (sym s ∙ h n)))

module _ {N : Type 0} (before : Bool) (P : N → Bool) (w : N → ℕ) (given all ts : List N) (t : N) (seen now : N → Bool) (off : all ≡ ts ++ t ∷ []) (marks : (n : N) → now n ≡ true → (n ≡ t) ⊎ (seen n ≡ true)) (sought : IsSought before P w given all seen) where
  pub sought_past : (after : Bool) → after ≡ before → seen t ≡ true → IsSought after P w given ts now
  sought_past after e s = elim sought [
    | inl f ↦ inl (e ∙ f.0, f.1)
    | inr l ↦ inr (e ∙ l.0, passed P w given all ts t seen off l.1 now marks s)
  ]

  pub sought_on : (after : Bool) (ps new : List N) → IsSeen before after P t ps → weight_of_all w ps < w t → new ≡ ts ++ ps → IsSought after P w given new now
  sought_on after ps new k l d = elim sought [
    | inl f ↦ elim k [ inl a ↦ inl (a.0, f.1) | inr a ↦ inl (a.0 ∙ f.0, f.1) ]
    | inr s ↦ elim k [
      | inl a ↦ inl (a.0, given_passes P w given all ts t seen off s.1 a.1)
      | inr a ↦ inr (a.0 ∙ s.0, opened P w given all ts t seen off s.1 ps new now d (record { lighter = l; passes = a.1 }) marks)
    ]
  ]

pub sought_last : {N : Type 0} (found : Bool) (P : N → Bool) (w : N → ℕ) (given : N) (left : List N) (seen : N → Bool) → left ≡ [] → IsSought found P w (given ∷ []) left seen → found ≡ P given
sought_last found P w given left seen e (inl f) = f.0 ∙ sym (sym (or_none (P given)) ∙ some_true P (given ∷ []) f.1)
sought_last found P w given left seen e (inr s) = s.0 ∙ ended P w (given ∷ []) left seen e s.1 ∙ or_none (P given)

-- what was found, as lists

pub found_same : (f : Free) (w : Walk) → f.variables.items ≡ w.variables.keys → f.types.items ≡ w.type_variables.keys → (x : Sought) → is_in (number_of x) (found_of f x) ≡ has w x
found_same f w v t (Variable n) = ap (is_in n) v
found_same f w v t (TypeVariable n) = ap (is_in n) t

pub found_once : (f : Free) → IsDistinct nat_eq f.variables.items → IsDistinct nat_eq f.types.items → (x : Sought) → IsDistinct nat_eq (found_of f x)
found_once f v t (Variable n) = v
found_once f v t (TypeVariable n) = t

pub marks_after : (mid new : Walk) → ((i : Piece) → is_marked new i ≡ is_marked mid i) → (i : Piece) → is_marked new i ≡ true → is_marked mid i ≡ true
marks_after mid new h i m = sym (h i) ∙ m
