-- A new variable in the place of a pattern that does not fit: what was as a scan has seen it stays so. The new variable stands on distinct
-- eigenconstants wherever the older one did.
use Rattle.std.proofs.Common.{◌≡◌, ℕ, zero, suc, ◌+◌, ◌<◌, ◌≤◌, min, List, [], ◌∷◌, ◌++◌, map, length, ◌∙◌, refl, sym, ap, subst as transport, arith, Bool, true, false, nat_eq, if◌then◌else◌, ◌||◌}
use Rattle.std.specs.Prelude.{nat_lt, nat_le, ◌&&◌}
use Rattle.std.proofs.lemmas.Bool.Decides.{nat_tests}
use Rattle.lp_calculus.specs.Term.{Term, Atom, index, atom, abs, app, apply, constant, integer, text, eigen, logic, param}
use Rattle.lp_calculus.specs.Convert.{Converts, same}
use Rattle.lp_calculus.specs.Fill.{Within, fill, at_variables, at_eigens, one, put, Binding, abstracted}
use Rattle.lp_calculus.proofs.Fills.{within_more, within_fill, fill_none}
use Rattle.lp_calculus.proofs.Steps.{converts_on, converts_is, converts_apply, converts_fill}
use Rattle.lp_calculus.proofs.Rigid.{IsRigid}
use Rattle.lp_model.specs.Patterns.{eigens, member, chosen}
use Rattle.lp_model.specs.Scan.{Side, is_side, allows, Pattern, renewal}
use Rattle.lp_unify_laws.proofs.Sames.{both, same_number}
use Rattle.lp_unify_laws.proofs.Abstractions.{Avoids, And, Distinct, within_abstracted, abstracted_beta, close_pattern}
use Rattle.lp_unify_laws.proofs.Closings.{WithinAll, apply_within}
use Rattle.lp_unify_laws.proofs.Termination.Stricts.{Allowed}
use Rattle.lp_unify_laws.proofs.Termination.Semis.{AllAbove, Semi, AllSemi, open_on, rigid_on, pattern_on, strict_on, semi_none, semi_more, semi_like, fill_all, fill_apply, apply_last, eigens_last, above_last}

-- lists
abbrev AllUp : ℕ → List ℕ → Type 0
AllUp k [] = Unit {0}
AllUp k (c ∷ b) = (c ≤ k) × AllUp k b

up_more : (k n : ℕ) (b : List ℕ) → k ≤ n → AllUp k b → AllUp n b
up_more k n [] h u = tt
up_more k n (c ∷ b) h u = let i = u.0 in (omega arith, up_more k n b h u.1)

abbrev total : List ℕ → ℕ
total [] = 0
total (c ∷ b) = c + total b

up_total : (b : List ℕ) → AllUp (total b) b
up_total [] = tt
up_total (c ∷ b) = (omega arith, up_more (total b) (c + total b) b (omega arith) (up_total b))

avoids_end : (k c : ℕ) (b : List ℕ) → Avoids b (eigen k) → (k ≡ c → ⊥) → Avoids (b ++ c ∷ []) (eigen k)
avoids_end k c [] h n = (n, tt)
avoids_end k c (d ∷ b) h n = (h.0, avoids_end k c b h.1 n)

distinct_end : (k j : ℕ) (b : List ℕ) → k < j → Distinct b → AllUp k b → Distinct (b ++ j ∷ [])
distinct_end k j [] l h u = (tt, tt)
distinct_end k j (c ∷ b) l h u = let i : c ≤ k = u.0 in (avoids_end c j b h.0 (λ e. omega arith), distinct_end k j b l h.1 u.1)

data Sub : List ℕ → List ℕ → Type 0 where
  sub_end : Sub [] []
  sub_skip : {xs ys : List ℕ} → (y : ℕ) → Sub xs ys → Sub xs (y ∷ ys)
  sub_take : {xs ys : List ℕ} → (y : ℕ) → Sub xs ys → Sub (y ∷ xs) (y ∷ ys)

sub_same : (xs : List ℕ) → Sub xs xs
sub_same [] = sub_end
sub_same (x ∷ xs) = sub_take x (sub_same xs)

avoids_sub : {xs ys : List ℕ} → Sub xs ys → (a : Atom) → Avoids ys a → Avoids xs a
avoids_sub sub_end a h = h
avoids_sub (sub_skip y u) a h = avoids_sub u a h.1
avoids_sub (sub_take y u) a h = (h.0, avoids_sub u a h.1)

distinct_sub : {xs ys : List ℕ} → Sub xs ys → Distinct ys → Distinct xs
distinct_sub sub_end h = h
distinct_sub (sub_skip y u) h = distinct_sub u h.1
distinct_sub (sub_take y u) h = (avoids_sub u (eigen y) h.0, distinct_sub u h.1)

above_sub : (m : ℕ) {xs ys : List ℕ} → Sub xs ys → AllAbove m ys → AllAbove m xs
above_sub m sub_end h = h
above_sub m (sub_skip y u) h = above_sub m u h.1
above_sub m (sub_take y u) h = (h.0, above_sub m u h.1)

sub_if : (c : Bool) (x : ℕ) {xs ys : List ℕ} → Sub xs ys → Sub (if c then x ∷ xs else xs) (x ∷ ys)
sub_if true x u = sub_take x u
sub_if false x u = sub_skip x u

chosen_sub : (f : ℕ → Bool) (xs : List ℕ) → Sub (chosen f xs) xs
chosen_sub f [] = sub_end
chosen_sub f (x ∷ xs) = sub_if (f x) x (chosen_sub f xs)

-- a list of the same length
abbrev Matches : List ℕ → List ℕ → Type 0
Matches [] [] = Unit {0}
Matches [] (d ∷ c) = ⊥
Matches (k ∷ b) [] = ⊥
Matches (k ∷ b) (d ∷ c) = Matches b c

abbrev renames : List ℕ → List ℕ → ℕ → ℕ
renames [] c k = k
renames (a ∷ b) [] k = k
renames (a ∷ b) (d ∷ c) k = if nat_eq k a then d else renames b c k

abbrev picked : (ℕ → Bool) → List ℕ → List ℕ → List ℕ
picked f [] c = []
picked f (a ∷ b) [] = []
picked f (a ∷ b) (d ∷ c) = if f a then d ∷ picked f b c else picked f b c

if_sub : (x : Bool) (d : ℕ) (xs rest ys : List ℕ) → Sub (xs ++ rest) ys → Sub ((if x then d ∷ xs else xs) ++ rest) (d ∷ ys)
if_sub true d xs rest ys u = sub_take d u
if_sub false d xs rest ys u = sub_skip d u

picked_sub : (f : ℕ → Bool) (b c rest : List ℕ) → Matches b c → Sub (picked f b c ++ rest) (c ++ rest)
picked_sub f [] [] rest h = sub_same rest
picked_sub f [] (d ∷ c) rest h = absurd h
picked_sub f (a ∷ b) [] rest h = absurd h
picked_sub f (a ∷ b) (d ∷ c) rest h = if_sub (f a) d (picked f b c) rest (c ++ rest) (picked_sub f b c rest h)

renames_other : (b c : List ℕ) (k : ℕ) → Avoids b (eigen k) → renames b c k ≡ k
renames_other [] c k h = refl
renames_other (a ∷ b) [] k h = refl
renames_other (a ∷ b) (d ∷ c) k h =
    let n : k ≡ a → ⊥ = h.0 in
    let e : nat_eq k a ≡ false = grind (arith, nat_tests) in
    ap (λ z. if z then d else renames b c k) e ∙ renames_other b c k h.1

renames_first : (a d : ℕ) (b c : List ℕ) → renames (a ∷ b) (d ∷ c) a ≡ d
renames_first a d b c = let e : nat_eq a a ≡ true = grind (arith, nat_tests) in ap (λ z. if z then d else renames b c a) e

abbrev EachNot : ℕ → List ℕ → Type 0
EachNot a [] = Unit {0}
EachNot a (x ∷ xs) = (x ≡ a → ⊥) × EachNot a xs

avoids_each : (a : ℕ) (b : List ℕ) → Avoids b (eigen a) → EachNot a b
avoids_each a [] h = tt
avoids_each a (c ∷ b) h = ((λ e. h.0 (sym e)), avoids_each a b h.1)

each_sub : (a : ℕ) {xs ys : List ℕ} → Sub xs ys → EachNot a ys → EachNot a xs
each_sub a sub_end h = h
each_sub a (sub_skip y u) h = each_sub a u h.1
each_sub a (sub_take y u) h = (h.0, each_sub a u h.1)

map_renames : (a d : ℕ) (b c xs : List ℕ) → EachNot a xs → map (renames (a ∷ b) (d ∷ c)) xs ≡ map (renames b c) xs
map_renames a d b c [] h = refl
map_renames a d b c (x ∷ xs) h =
    let n : x ≡ a → ⊥ = h.0 in
    let e : nat_eq x a ≡ false = grind (arith, nat_tests) in
    (λ i. (if e i then d else renames b c x) ∷ map_renames a d b c xs h.1 i)

renamed_all : (b c : List ℕ) → Distinct b → Matches b c → map (renames b c) b ≡ c
renamed_all [] [] h k = refl
renamed_all [] (d ∷ c) h k = absurd k
renamed_all (a ∷ b) [] h k = absurd k
renamed_all (a ∷ b) (d ∷ c) h k =
    let q = map_renames a d b c b (avoids_each a b h.0) ∙ renamed_all b c h.1 k in
    (λ i. renames_first a d b c i ∷ q i)

if_picked : (x : Bool) (a d : ℕ) (g h : ℕ → ℕ) (xs ys : List ℕ) → g a ≡ d → map g xs ≡ ys → map g (if x then a ∷ xs else xs) ≡ (if x then d ∷ ys else ys)
if_picked true a d g h xs ys e i = (λ z. e z ∷ i z)
if_picked false a d g h xs ys e i = i

renamed_picked : (f : ℕ → Bool) (b c : List ℕ) → Distinct b → Matches b c → map (renames b c) (chosen f b) ≡ picked f b c
renamed_picked f [] [] h k = refl
renamed_picked f [] (d ∷ c) h k = absurd k
renamed_picked f (a ∷ b) [] h k = absurd k
renamed_picked f (a ∷ b) (d ∷ c) h k =
    if_picked (f a) a d (renames (a ∷ b) (d ∷ c)) (renames b c) (chosen f b) (picked f b c) (renames_first a d b c)
    (map_renames a d b c (chosen f b) (each_sub a (chosen_sub f b) (avoids_each a b h.0)) ∙ renamed_picked f b c h.1 k)

low_avoids : (m k : ℕ) (b : List ℕ) → k ≤ m → AllAbove m b → Avoids b (eigen k)
low_avoids m k [] h a = tt
low_avoids m k (c ∷ b) h a = let l : m < c = a.0 in ((λ e. omega arith), low_avoids m k b h a.1)

renamed_low : (m : ℕ) (b c xs : List ℕ) → AllUp m xs → AllAbove m b → map (renames b c) xs ≡ xs
renamed_low m b c [] u a = refl
renamed_low m b c (x ∷ xs) u a = (λ i. renames_other b c x (low_avoids m x b u.0 a) i ∷ renamed_low m b c xs u.1 a i)

avoids_both : (xs ys : List ℕ) (a : Atom) → Avoids xs a → Avoids ys a → Avoids (xs ++ ys) a
avoids_both [] ys a h k = k
avoids_both (x ∷ xs) ys a h k = (h.0, avoids_both xs ys a h.1 k)

distinct_both : (m : ℕ) (xs ys : List ℕ) → Distinct xs → Distinct ys → AllUp m xs → AllAbove m ys → Distinct (xs ++ ys)
distinct_both m [] ys h k u a = k
distinct_both m (x ∷ xs) ys h k u a = (avoids_both xs ys (eigen x) h.0 (low_avoids m x ys u.0 a), distinct_both m xs ys h.1 k u.1 a)

above_both : (m : ℕ) (xs ys : List ℕ) → AllAbove m xs → AllAbove m ys → AllAbove m (xs ++ ys)
above_both m [] ys h k = k
above_both m (x ∷ xs) ys h k = (h.0, above_both m xs ys h.1 k)

above_lower : (l m : ℕ) (xs : List ℕ) → l ≤ m → AllAbove m xs → AllAbove l xs
above_lower l m [] h a = tt
above_lower l m (x ∷ xs) h a = let i : m < x = a.0 in (omega arith, above_lower l m xs h a.1)

if_up : (m x : ℕ) (xs : List ℕ) (c : Bool) → nat_le x m ≡ c → AllUp m xs → AllUp m (if c then x ∷ xs else xs)
if_up m x xs true e u = (let q : x ≤ m = grind (arith, nat_tests) in q, u)
if_up m x xs false e u = u

low_chosen : (m : ℕ) (xs : List ℕ) → AllUp m (chosen (λ k. nat_le k m) xs)
low_chosen m [] = tt
low_chosen m (x ∷ xs) = if_up m x (chosen (λ k. nat_le k m) xs) (nat_le x m) refl (low_chosen m xs)

map_both : (f : ℕ → ℕ) (xs ys : List ℕ) → map f (xs ++ ys) ≡ map f xs ++ map f ys
map_both f [] ys = refl
map_both f (x ∷ xs) ys = ap (λ z. f x ∷ z) (map_both f xs ys)

-- what is asked for
pub record CanRenew (s : Side) (next : ℕ) (p : Pattern) : Type 0 where
  pub distinct : Distinct p.arguments
  pub above : AllAbove p.level p.arguments
  pub low : p.level ≤ s.pair
  pub other : is_side s p.id p.level ≡ false
  pub new : is_side s next (min s.level p.level) ≡ false
  pub side_distinct : Distinct s.arguments
  pub side_above : AllAbove s.level s.arguments

abbrev given : Side → Pattern → List ℕ
given s p = chosen (λ k. nat_le k p.level) s.arguments ++ chosen (allows s) p.arguments

abbrev inner : Side → ℕ → Pattern → Term
inner s next p = apply (atom (logic next (min s.level p.level))) (eigens (given s p))

abbrev Any : Atom → Type 0
Any a = Unit {0}

any_eigens : (cs : List ℕ) → WithinAll Any (eigens cs)
any_eigens [] = tt
any_eigens (c ∷ cs) = (tt, any_eigens cs)

renamed_atom : (ρ : ℕ → ℕ) → Atom → Term
renamed_atom ρ a = at_eigens (λ k. atom (eigen (ρ k))) a

renamed_pattern : (ρ : ℕ → ℕ) (b : List ℕ) (h : Term) → fill (renamed_atom ρ) (apply h (eigens b)) ≡ apply (fill (renamed_atom ρ) h) (eigens (map ρ b))
unfolding renamed_atom
renamed_pattern ρ [] h = refl
renamed_pattern ρ (d ∷ b) h = renamed_pattern ρ b (app h (atom (eigen d)))

renamed_kept : (b c : List ℕ) (a : Atom) → And Any (Avoids b) a → renamed_atom (renames b c) a ≡ atom a
unfolding renamed_atom
renamed_kept b c (eigen k) h = ap (λ z. atom (eigen z)) (renames_other b c k h.1)
renamed_kept b c (logic x l) h = refl
renamed_kept b c (constant d ts) h = refl
renamed_kept b c (integer z) h = refl
renamed_kept b c (text t) h = refl
renamed_kept b c (param d t) h = refl

value_on : (b c cs : List ℕ) (n l : ℕ) → Distinct b → Matches b c → Converts (apply (abstracted b (apply (atom (logic n l)) (eigens cs))) (eigens c)) (apply (atom (logic n l)) (eigens (map (renames b c) cs)))
unfolding renamed_atom
value_on b c cs n l d m =
    let t = apply (atom (logic n l)) (eigens cs) in
    let f = renamed_atom (renames b c) in
    let w : Within Any 0 t = apply_within Any (eigens cs) (atom (logic n l)) tt (any_eigens cs) in
    let kept : fill f (abstracted b t) ≡ abstracted b t = fill_none (And Any (Avoids b)) f (renamed_kept b c) 0 (abstracted b t) (within_abstracted Any b t w) in
    let left : fill f (apply (abstracted b t) (eigens b)) ≡ apply (abstracted b t) (eigens c) = renamed_pattern (renames b c) b (abstracted b t) ∙ (λ i. apply (kept i) (eigens (renamed_all b c d m i))) in
    converts_on (converts_is (sym left)) (converts_on (converts_fill f (abstracted_beta Any b t w)) (converts_is (renamed_pattern (renames b c) cs (atom (logic n l)))))

apply_more : (b c : List ℕ) (h : Term) → apply h (eigens (b ++ c)) ≡ apply (apply h (eigens b)) (eigens c)
apply_more [] c h = refl
apply_more (k ∷ b) c h = apply_more b c (app h (atom (eigen k)))

append_three : (a b c : List ℕ) → (a ++ b) ++ c ≡ a ++ (b ++ c)
append_three [] b c = refl
append_three (x ∷ a) b c = ap (λ z. x ∷ z) (append_three a b c)

-- the new variable where as many arguments stand as the pattern has, or more
enough_semi : (s : Side) (next : ℕ) (p : Pattern) → CanRenew s next p → (c rest : List ℕ) → Matches p.arguments c → Distinct (c ++ rest) → AllAbove p.level (c ++ rest) → Semi s (apply (abstracted p.arguments (inner s next p)) (eigens (c ++ rest)))
enough_semi s next p r c rest k d a =
    let b = p.arguments in
    let m = p.level in
    let l = min s.level m in
    let A = chosen (λ j. nat_le j m) s.arguments in
    let D = picked (allows s) b c ++ rest in
    let sub = picked_sub (allows s) b c rest k in
    let up = low_chosen m s.arguments in
    let names : map (renames b c) (given s p) ≡ A ++ picked (allows s) b c = map_both (renames b c) A (chosen (allows s) b) ∙ (λ i. renamed_low m b c A up r.above i ++ renamed_picked (allows s) b c r.distinct k i) in
    let on : Converts (apply (abstracted b (inner s next p)) (eigens c)) (apply (atom (logic next l)) (eigens (A ++ picked (allows s) b c))) =
    converts_on (value_on b c (given s p) next l r.distinct k) (converts_is (ap (λ z. apply (atom (logic next l)) (eigens z)) names)) in
    let whole : Converts (apply (abstracted b (inner s next p)) (eigens (c ++ rest))) (apply (atom (logic next l)) (eigens (A ++ D))) =
    converts_on (converts_is (apply_more c rest (abstracted b (inner s next p)))) (converts_on (converts_apply (eigens rest) on)
    (converts_is (sym (apply_more (A ++ picked (allows s) b c) rest (atom (logic next l))) ∙ ap (λ z. apply (atom (logic next l)) (eigens z)) (append_three A (picked (allows s) b c) rest)))) in
    let da = distinct_sub (chosen_sub (λ j. nat_le j m) s.arguments) r.side_distinct in
    let high = above_sub m sub a in
    let low : m ≤ s.pair = r.low in
    pattern_on next l (A ++ D) whole (distinct_both m A D da (distinct_sub sub d) up high)
    (above_both l A D (above_lower l s.level A (omega arith) (above_sub s.level (chosen_sub (λ j. nat_le j m) s.arguments) r.side_above)) (above_lower l m D (omega arith) high))
    (omega arith) r.new

data Splits (b c : List ℕ) : Type 0 where
  enough : (d rest : List ℕ) → c ≡ d ++ rest → Matches b d → Splits b c
  short : length c < length b → Splits b c

splits : (b c : List ℕ) → Splits b c
splits [] c = enough [] c refl tt
splits (a ∷ b) [] = short (omega arith)
splits (a ∷ b) (d ∷ c) = go (splits b c)
  where
    go : Splits b c → Splits (a ∷ b) (d ∷ c)
    go (enough e rest i k) = enough (d ∷ e) rest (ap (λ z. d ∷ z) i) k
    go (short l) = short (omega arith)

length_end : (b : List ℕ) (c : ℕ) → length (b ++ c ∷ []) ≡ suc (length b)
length_end [] c = refl
length_end (d ∷ b) c = ap suc (length_end b c)

abbrev ValueSemi : Side → ℕ → Pattern → ℕ → Type 0
ValueSemi s next p g = (c : List ℕ) → length p.arguments ≤ length c + g → Distinct c → AllAbove p.level c → Semi s (apply (abstracted p.arguments (inner s next p)) (eigens c))

all_there : (s : Side) (next : ℕ) (p : Pattern) → CanRenew s next p → (c : List ℕ) → Distinct c → AllAbove p.level c → (e rest : List ℕ) → c ≡ e ++ rest → Matches p.arguments e → Semi s (apply (abstracted p.arguments (inner s next p)) (eigens c))
all_there s next p r c d a e rest i k = transport (λ z. Semi s (apply (abstracted p.arguments (inner s next p)) (eigens z))) (sym i) (enough_semi s next p r e rest k (transport Distinct i d) (transport (AllAbove p.level) i a))

value_semi : (s : Side) (next : ℕ) (p : Pattern) → CanRenew s next p → (g : ℕ) → ValueSemi s next p g
value_semi s next p r zero c l d a = go (splits p.arguments c)
  where
    go : Splits p.arguments c → Semi s (apply (abstracted p.arguments (inner s next p)) (eigens c))
    go (enough e rest i k) = all_there s next p r c d a e rest i k
    go (short h) = absurd (omega arith)
value_semi s next p r (suc g) c l d a = go (splits p.arguments c) (value_semi s next p r g)
  where
    go : Splits p.arguments c → ValueSemi s next p g → Semi s (apply (abstracted p.arguments (inner s next p)) (eigens c))
    go (enough e rest i k) ι = all_there s next p r c d a e rest i k
    go (short h) ι = open_on (s.pair + total c) (λ j i.
        let low : p.level ≤ s.pair = r.low in
        let n = length_end c j in
        semi_like s (converts_is (sym (ap (apply (abstracted p.arguments (inner s next p))) (eigens_last c j) ∙ apply_last (eigens c) (atom (eigen j)) (abstracted p.arguments (inner s next p)))))
        (ι (c ++ j ∷ []) (omega arith) (distinct_end (total c) j c (omega arith) d (up_total c)) (above_last p.level j c a (omega arith))))

-- the value itself has allowed atoms alone
or_second : (a b c : Bool) → b ≡ true → (a || b || c) ≡ true
or_second true b c e = refl
or_second false true c e = refl
or_second false false c e = absurd (cc)

or_right : (a b : Bool) → b ≡ true → (a || b) ≡ true
or_right true b e = refl
or_right false b e = e

or_left : (a b : Bool) → a ≡ true → (a || b) ≡ true
or_left true b e = refl
or_left false b e = absurd (cc)

if_allowed : (s : Side) (x : ℕ) (xs : List ℕ) (c : Bool) → allows s x ≡ true → WithinAll (Allowed s) (eigens xs) → WithinAll (Allowed s) (eigens (if c then x ∷ xs else xs))
if_allowed s x xs true e h = (e, h)
if_allowed s x xs false e h = h

members_allowed : (s : Side) (f : ℕ → Bool) (xs : List ℕ) → ((k : ℕ) → member k xs ≡ true → allows s k ≡ true) → WithinAll (Allowed s) (eigens (chosen f xs))
members_allowed s f [] h = tt
members_allowed s f (x ∷ xs) h =
    let e : nat_eq x x ≡ true = grind (arith, nat_tests) in
    if_allowed s x (chosen f xs) (f x) (h x (or_left (nat_eq x x) (member x xs) e)) (members_allowed s f xs (λ k i. h k (or_right (nat_eq k x) (member k xs) i)))

if_chosen : (s : Side) (x : ℕ) (xs : List ℕ) (c : Bool) → allows s x ≡ c → WithinAll (Allowed s) (eigens xs) → WithinAll (Allowed s) (eigens (if c then x ∷ xs else xs))
if_chosen s x xs true e h = (e, h)
if_chosen s x xs false e h = h

chosen_allowed : (s : Side) (xs : List ℕ) → WithinAll (Allowed s) (eigens (chosen (allows s) xs))
chosen_allowed s [] = tt
chosen_allowed s (x ∷ xs) = if_chosen s x (chosen (allows s) xs) (allows s x) refl (chosen_allowed s xs)

both_allowed : (s : Side) (xs ys : List ℕ) → WithinAll (Allowed s) (eigens xs) → WithinAll (Allowed s) (eigens ys) → WithinAll (Allowed s) (eigens (xs ++ ys))
both_allowed s [] ys h k = k
both_allowed s (x ∷ xs) ys h k = (h.0, both_allowed s xs ys h.1 k)

value_allowed : (s : Side) (next : ℕ) (p : Pattern) → CanRenew s next p → Within (Allowed s) 0 (abstracted p.arguments (inner s next p))
value_allowed s next p r =
    let l = min s.level p.level in
    let q : nat_lt s.level l ≡ false = grind (arith, nat_tests) in
    let w : Within (Allowed s) 0 (inner s next p) = apply_within (Allowed s) (eigens (given s p)) (atom (logic next l)) (r.new, q)
    (both_allowed s (chosen (λ k. nat_le k p.level) s.arguments) (chosen (allows s) p.arguments) (members_allowed s (λ k. nat_le k p.level) s.arguments (λ k i. or_second (nat_le k s.level) (member k s.arguments) (nat_lt s.pair k) i)) (chosen_allowed s p.arguments)) in
    within_more (And (Allowed s) (Avoids p.arguments)) (Allowed s) 0 0 (λ a h. h.0) (omega arith) (abstracted p.arguments (inner s next p)) (within_abstracted (Allowed s) p.arguments (inner s next p) w)

if_within : (s : Side) (c : Bool) (t u : Term) → Within (Allowed s) 0 t → Within (Allowed s) 0 u → Within (Allowed s) 0 (if c then t else u)
if_within s true t u h k = h
if_within s false t u h k = k

put_allowed : (s : Side) (next : ℕ) (p : Pattern) → CanRenew s next p → (a : Atom) → Allowed s a → Within (Allowed s) 0 (at_variables (one (renewal s next p)) a)
put_allowed s next p r (logic x l) h = if_within s (nat_eq x p.id && nat_eq l p.level) (abstracted p.arguments (inner s next p)) (atom (logic x l)) (value_allowed s next p r) h
put_allowed s next p r (eigen k) h = h
put_allowed s next p r (constant c ts) h = tt
put_allowed s next p r (integer z) h = tt
put_allowed s next p r (text t) h = tt
put_allowed s next p r (param k t) h = tt

rigid_put : (b : Binding) (h : Term) → IsRigid h → put b h ≡ h
rigid_put b (index i) r = refl
rigid_put b (atom (eigen k)) r = refl
rigid_put b (atom (constant c ts)) r = refl
rigid_put b (atom (integer z)) r = refl
rigid_put b (atom (text t)) r = refl
rigid_put b (atom (param k t)) r = refl
rigid_put b (atom (logic x l)) r = absurd r
rigid_put b (abs t) r = absurd r
rigid_put b (app f u) r = absurd r

pattern_put : (s : Side) (next : ℕ) (p : Pattern) → CanRenew s next p → (x l : ℕ) (c : List ℕ) → Distinct c → AllAbove l c → l ≤ s.pair → is_side s x l ≡ false → (z : Bool) → (nat_eq x p.id && nat_eq l p.level) ≡ z →
    Semi s (apply (if z then abstracted p.arguments (inner s next p) else atom (logic x l)) (eigens c))
pattern_put s next p r x l c d a h o false e = pattern_on x l c (same (apply (atom (logic x l)) (eigens c))) d a h o
pattern_put s next p r x l c d a h o true e =
    let q = same_number l p.level (both (nat_eq x p.id) (nat_eq l p.level) e).1 in
    value_semi s next p r (length p.arguments) c (omega arith) d (transport (λ z. AllAbove z c) q a)

mutual
  pub semi_put : (s : Side) (next : ℕ) (p : Pattern) → CanRenew s next p → {t : Term} → Semi s t → Semi s (put (renewal s next p) t)
  semi_put s next p r (open_on L f) = open_on L (λ j l. semi_put s next p r (f j l))
  semi_put s next p r (rigid_on h ts c g a all) =
      let f = at_variables (one (renewal s next p)) in
      rigid_on h (fill_all f ts) (converts_on (converts_fill f c) (converts_is (fill_apply f ts h ∙ ap (λ z. apply z (fill_all f ts)) (rigid_put (renewal s next p) h g)))) g a (all_put s next p r all)
  semi_put s next p r (pattern_on x l c d i j o k) =
      semi_like s (converts_on (converts_fill (at_variables (one (renewal s next p))) d) (converts_is (close_pattern (one (renewal s next p)) (atom (logic x l)) c)))
      (pattern_put s next p r x l c i j o k (nat_eq x p.id && nat_eq l p.level) refl)
  semi_put s next p r (strict_on z) = strict_on (record {
    to = put (renewal s next p) z.to;
    converts = converts_fill (at_variables (one (renewal s next p))) z.converts;
    within = within_fill (Allowed s) (Allowed s) (at_variables (one (renewal s next p))) 0 (put_allowed s next p r) z.to z.within;
  })

  all_put : (s : Side) (next : ℕ) (p : Pattern) → CanRenew s next p → {ts : List Term} → AllSemi s ts → AllSemi s (fill_all (at_variables (one (renewal s next p))) ts)
  all_put s next p r semi_none = semi_none
  all_put s next p r (semi_more h hs) = semi_more (semi_put s next p r h) (all_put s next p r hs)
