-- Where the tables of a program have the hidden constants of each copy, and those that the root exports.
use Rattle.std.proofs.Common.{◌≡◌, ℕ, zero, suc, ◌+◌, ◌-◌, ◌<◌, ◌≤◌, List, [], ◌∷◌, ◌++◌, length, map, take, drop, refl, sym, ap, subst, ◌∙◌, arith, Bool, true, false, Option, Some, None, inl, inr, append_assoc}
use Rattle.std.specs.Prelude.{◌⊎◌, nat_eq, if◌then◌else◌, option_map, option_to_list, slice_get}
use Rattle.std.specs.List.{range_with_len}
use Rattle.std.proofs.lemmas.Bool.{cases_lt, ne_eqb, eqb-true, le-ltb}
use Rattle.std.proofs.lemmas.List.{drop_all, append-nil, length-append, length-map}
use Rattle.std.proofs.lemmas.Option.{slice_get-map, slice_get_within, get_or_from_slice_get, same_Some}
use Rattle.lp_lemmas.specs.Each.{EachOf}
use Rattle.lp_lemmas.proofs.Each.{each_append}
use Rattle.lp_lemmas.proofs.Lists.{get_below}
use Rattle.lp_lemmas.proofs.Numbers.{nat_eq_self}
use Rattle.lp_calculus.specs.Typing.{Scheme}
use Rattle.lp_standard.specs.Schemes.{entry, standard_schemes}
use Rattle.lp_term.specs.Nodes.{Nodes}
use Rattle.lp_model.specs.Readings.{scheme_of, declared_by}
use Rattle.lp_model.specs.declared.program.Declared.{Declared}
use Rattle.lp_sig.specs.declared.entries.ConstantEntry.{ConstantEntry}
use Rattle.lp_infer.specs.Texts.{entry_scheme}
use Rattle.lp_module.specs.Orderly.{IsOrderly, AreOrderly, HasType}
use Rattle.lp_module.specs.Program.{Copy, Next, place_in, hidden_or, one_if_none, exported_before, one_if_exported, exported_among, hidden_among, scheme_in, exported_schemes, hidden_schemes, of_module, of_copies, constant_at, constant_in, CopiesBelow, none_below, one_below, IsProgram}
use Rattle.lp_module.specs.declared.copies.Assembled.{Assembled}
use Rattle.lp_module.specs.declared.module.Module.{Module}

-- numbers in a row
pub place_none : (a n k : ℕ) → k < a → place_in (range_with_len a n) k ≡ None
place_none a zero k l = refl
place_none a (suc n) k l =
    ap (λ b. if b then Some 0 else option_map (λ j. suc j) (place_in (range_with_len (a + 1) n) k)) (ne_eqb a k (λ e. omega (arith, l, e))) ∙
    ap (option_map (λ j. suc j)) (place_none (a + 1) n k (omega (arith, l)))

pub place_at : (a n i k : ℕ) → i < n → k ≡ a + i → place_in (range_with_len a n) k ≡ Some i
place_at a zero i k l e = absurd (omega (arith, l))
place_at a (suc n) zero k l e =
    let f : k ≡ a = omega (arith, e) in
    ap (λ b. if b then Some 0 else option_map (λ j. suc j) (place_in (range_with_len (a + 1) n) k)) (ap (nat_eq a) f ∙ nat_eq_self a)
place_at a (suc n) (suc i) k l e =
    ap (λ b. if b then Some 0 else option_map (λ j. suc j) (place_in (range_with_len (a + 1) n) k)) (ne_eqb a k (λ f. omega (arith, e, f))) ∙
    ap (option_map (λ j. suc j)) (place_at (a + 1) n i k (omega (arith, l)) (omega (arith, e)))

place_back : (a n k j : ℕ) → place_in (range_with_len a n) k ≡ Some j → k ≡ a + j
place_back a zero k j e = absurd (cc)
place_back a (suc n) k j e = by (nat_eq a k) refl (place_in (range_with_len (a + 1) n) k) refl (λ i p. place_back (a + 1) n k i p) e
  where
    by : (t : Bool) → nat_eq a k ≡ t → (o : Option ℕ) → place_in (range_with_len (a + 1) n) k ≡ o →
        ((i : ℕ) → place_in (range_with_len (a + 1) n) k ≡ Some i → k ≡ (a + 1) + i) → (if t then Some 0 else option_map (λ j. suc j) o) ≡ Some j → k
        ≡ a + j
    by true s o p h q = let z : 0 ≡ j = same_Some 0 j q in let f = eqb-true a k s in omega (arith, z, f)
    by false s None p h q = absurd (cc)
    by false s (Some i) p h q = let z : suc i ≡ j = same_Some (suc i) j q in let f = h i p in omega (arith, z, f)

range_length : (a n : ℕ) → length (range_with_len a n) ≡ n
range_length a zero = refl
range_length a (suc n) = let r = range_length (a + 1) n in omega (arith, r)

-- the exported entries are the first ones
module _ {A : Type 0} where
  taken_none : (k : ℕ) (xs : List A) → xs ≡ [] → take k xs ≡ []
  taken_none zero xs e = refl
  taken_none (suc k) [] e = refl
  taken_none (suc k) (x ∷ xs) e = absurd (cc)

  none_left : (b n f i : ℕ) (xs : List A) → f ≡ b + i → i + length xs ≤ n → exported_among f (range_with_len b n) xs ≡ []
  none_left b n f i [] e l = refl
  none_left b n f i (x ∷ xs) e l =
      ap (λ o. one_if_exported o x ++ exported_among (suc f) (range_with_len b n) xs) (place_at b n i f (omega (arith, l)) e) ∙
      none_left b n (suc f) (suc i) xs (omega (arith, e)) (omega (arith, l))

  pub exported_first : (b n f k : ℕ) (xs : List A) → b ≡ f + k → length xs ≤ k + n → exported_among f (range_with_len b n) xs ≡ take k xs
  exported_first b n f k [] e l = sym (taken_none k [] refl)
  exported_first b n f zero (x ∷ xs) e l = none_left b n f 0 (x ∷ xs) (omega (arith, e)) (omega (arith, l))
  exported_first b n f (suc k) (x ∷ xs) e l =
      ap (λ o. one_if_exported o x ++ exported_among (suc f) (range_with_len b n) xs) (place_none b n f (omega (arith, e))) ∙
      ap (λ l. x ∷ l) (exported_first b n (suc f) k xs (omega (arith, e)) (omega (arith, l)))

  -- the hidden ones come behind them
  hidden_last : (b n f k : ℕ) (xs : List A) → b ≡ f + k → n ≡ length xs - k → hidden_among f (range_with_len b n) xs ≡ drop k xs
  hidden_last b zero f k xs e l = sym (drop_all k xs (omega (arith, l)))
  hidden_last b (suc n) f k xs e l =
      let (x, at) = get_below xs k (omega (arith, l)) in
      let z : b - f ≡ k = omega (arith, e) in
      ap (λ j. option_to_list (slice_get xs j) ++ hidden_among f (range_with_len (b + 1) n) xs) z ∙ ap (λ o. option_to_list o ++ hidden_among f (range_with_len (b + 1) n) xs) at ∙
      ap (λ l. x ∷ l) (hidden_last (b + 1) n f (suc k) xs (omega (arith, e)) (omega (arith, l))) ∙ sym (dropped k xs x at)
    where
      dropped : (k : ℕ) (xs : List A) (x : A) → slice_get xs k ≡ Some x → drop k xs ≡ x ∷ drop (suc k) xs
      dropped k [] x e = absurd (cc)
      dropped zero (y ∷ ys) x e = let f : y ≡ x = cc in ap (λ z. z ∷ ys) f
      dropped (suc k) (y ∷ ys) x e = dropped k ys x e

  -- what is found in a list that is put together
  found_front : (xs ys : List A) (j : ℕ) (x : A) → slice_get xs j ≡ Some x → slice_get (xs ++ ys) j ≡ Some x
  found_front [] ys j x e = absurd (cc)
  found_front (y ∷ xs) ys zero x e = e
  found_front (y ∷ xs) ys (suc j) x e = found_front xs ys j x e

  found_behind : (xs ys : List A) (j : ℕ) (x : A) → slice_get ys j ≡ Some x → slice_get (xs ++ ys) (length xs + j) ≡ Some x
  found_behind [] ys j x e = let z : 0 + j ≡ j = omega arith in ap (slice_get ys) z ∙ e
  found_behind (y ∷ xs) ys j x e = let z : suc (length xs) + j ≡ suc (length xs + j) = omega arith in ap (slice_get (y ∷ (xs ++ ys))) z ∙ found_behind xs ys j x e

  found_drop : (k : ℕ) (xs : List A) (j : ℕ) → slice_get (drop k xs) j ≡ slice_get xs (k + j)
  found_drop zero xs j = let z : j ≡ 0 + j = omega arith in ap (slice_get xs) z
  found_drop (suc k) [] j = refl
  found_drop (suc k) (y ∷ ys) j = let z : suc (k + j) ≡ suc k + j = omega arith in found_drop k ys j ∙ ap (slice_get (y ∷ ys)) z

  found_take : (k : ℕ) (xs : List A) (j : ℕ) (x : A) → j < k → slice_get xs j ≡ Some x → slice_get (take k xs) j ≡ Some x
  found_take zero xs j x l e = absurd (omega (arith, l))
  found_take (suc k) [] j x l e = e
  found_take (suc k) (y ∷ ys) zero x l e = e
  found_take (suc k) (y ∷ ys) (suc j) x l e = found_take k ys j x (omega (arith, l)) e

  dropped_length : (k : ℕ) (xs : List A) → length (drop k xs) ≡ length xs - k
  dropped_length zero xs = omega arith
  dropped_length (suc k) [] = omega arith
  dropped_length (suc k) (y ∷ ys) = let r = dropped_length k ys in omega (arith, r)

  taken_length : (k : ℕ) (xs : List A) → length (take k xs) ≡ length xs - (length xs - k)
  taken_length zero xs = omega arith
  taken_length (suc k) [] = omega arith
  taken_length (suc k) (y ∷ ys) = let r = taken_length k ys in omega (arith, r)

-- what the table tells
entry_is : (b : Nodes) (ds : List Declared) (n : ℕ) → entry (map (λ d. Some (scheme_of b d)) ds) n ≡ slice_get (map (scheme_of b) ds) n
entry_is b [] n = refl
entry_is b (d ∷ ds) zero = refl
entry_is b (d ∷ ds) (suc n) = entry_is b ds n

declared_at : (b : Nodes) (ds : List Declared) (k n : ℕ) (s : Scheme) → k ≡ 32 + n → slice_get (map (scheme_of b) ds) n ≡ Some s → declared_by b ds k ≡ Some s
declared_at b ds k n s e f =
    let z : k - 32 ≡ n = omega (arith, e) in
    ap (λ t. if t then entry standard_schemes k else entry (map (λ d. Some (scheme_of b d)) ds) (k - 32)) (le-ltb k 32 (omega (arith, e))) ∙ ap
    (entry (map (λ d. Some (scheme_of b d)) ds)) z ∙ entry_is b ds n ∙ f

-- the exported constants of a module
module _ (m : Module) (o : IsOrderly m) where
  pub exported_below : (i : ℕ) (e : ConstantEntry) → slice_get m.signature.constants.items i ≡ Some e → place_in m.hidden_constants.items (32 + i) ≡ None → i < o.exported_constants
  exported_below i e at p = by (cases_lt i o.exported_constants)
    where
      by : (i < o.exported_constants) ⊎ (o.exported_constants ≤ i) → i < o.exported_constants
      by (inl l) = l
      by (inr l) =
          let w = slice_get_within m.signature.constants.items i e at in
          let q = place_at (32 + o.exported_constants) (length m.signature.constants.items - o.exported_constants) (i - o.exported_constants) (32 + i) (omega (arith, l, w)) (omega (arith, l)) in
          let f : None ≡ Some (i - o.exported_constants) = sym p ∙ ap (λ h. place_in h (32 + i)) o.constants ∙ q in
          absurd (cc)

-- the types of a module's constants in a copy
module _ (c : Copy) (m : Module) (o : IsOrderly m) where
  abbrev of_entry : ConstantEntry → Scheme
  of_entry e = scheme_in c (entry_scheme m.signature.bank e)

  hidden_are : hidden_schemes c m ≡ map of_entry (drop o.exported_constants m.signature.constants.items)
  hidden_are =
      ap (λ h. map of_entry (hidden_among 32 h m.signature.constants.items)) o.constants ∙
      ap (map of_entry) (hidden_last (32 + o.exported_constants) (length m.signature.constants.items - o.exported_constants) 32 o.exported_constants m.signature.constants.items refl refl)

  exported_are : exported_schemes c m ≡ map of_entry (take o.exported_constants m.signature.constants.items)
  exported_are =
      ap (λ h. map of_entry (exported_among 32 h m.signature.constants.items)) o.constants ∙
      ap (map of_entry) (exported_first (32 + o.exported_constants) (length m.signature.constants.items - o.exported_constants) 32 o.exported_constants m.signature.constants.items refl (omega arith))

  many_hidden : length (hidden_schemes c m) ≡ length m.hidden_constants.items
  many_hidden =
      ap length hidden_are ∙ length-map (drop o.exported_constants m.signature.constants.items) of_entry ∙ dropped_length o.exported_constants m.signature.constants.items ∙
      sym (ap length o.constants ∙ range_length (32 + o.exported_constants) (length m.signature.constants.items - o.exported_constants))

  many_exported : length (exported_schemes c m) ≡ length m.signature.constants.items - length m.hidden_constants.items
  many_exported =
      let r = ap length o.constants ∙ range_length (32 + o.exported_constants) (length m.signature.constants.items - o.exported_constants) in
      ap length exported_are ∙ length-map (take o.exported_constants m.signature.constants.items) of_entry ∙ taken_length o.exported_constants
      m.signature.constants.items ∙ ap (λ n. length m.signature.constants.items - n) (sym r)

  hidden_found : (i j : ℕ) (e : ConstantEntry) → slice_get m.signature.constants.items i ≡ Some e → place_in m.hidden_constants.items (32 + i) ≡ Some
      j → slice_get (hidden_schemes c m) j ≡ Some (of_entry e)
  hidden_found i j e at p =
      let q = place_back (32 + o.exported_constants) (length m.signature.constants.items - o.exported_constants) (32 + i) j (ap (λ h. place_in h (32 + i)) (sym o.constants) ∙ p) in
      let z : o.exported_constants + j ≡ i = omega (arith, q) in
      ap (λ l. slice_get l j) hidden_are ∙ slice_get-map of_entry (drop o.exported_constants m.signature.constants.items) j ∙
      ap (option_map of_entry) (found_drop o.exported_constants m.signature.constants.items j ∙ ap (slice_get m.signature.constants.items) z ∙ at)

  exported_found : (i : ℕ) (e : ConstantEntry) → slice_get m.signature.constants.items i ≡ Some e → place_in m.hidden_constants.items (32 + i) ≡ None
      → slice_get (exported_schemes c m) i ≡ Some (of_entry e)
  exported_found i e at p =
      ap (λ l. slice_get l i) exported_are ∙ slice_get-map of_entry (take o.exported_constants m.signature.constants.items) i ∙
      ap (option_map of_entry) (found_take o.exported_constants m.signature.constants.items i e (exported_below m o i e at p) at)

  before_all : (i : ℕ) → i ≤ o.exported_constants → exported_before 32 m.hidden_constants.items i ≡ i
  before_all zero l = refl
  before_all (suc i) l =
      let p : place_in m.hidden_constants.items (32 + i) ≡ None = ap (λ h. place_in h (32 + i)) o.constants ∙ place_none (32 + o.exported_constants)
      (length m.signature.constants.items - o.exported_constants) (32 + i) (omega (arith, l)) in
      let q : i + 1 ≡ suc i = omega arith in
      (λ j. before_all i (omega (arith, l)) j + ap one_if_none p j) ∙ q

-- a table has each hidden constant of a copy
abbrev Finds : List Module → List Scheme → Copy → Type 0
Finds modules table c =
    (m : Module) → slice_get modules c.member ≡ Some m → (i : ℕ) (e : ConstantEntry) → slice_get m.signature.constants.items i ≡ Some e → (j : ℕ) →
    place_in m.hidden_constants.items (32 + i) ≡ Some j →
    (n : ℕ) × (c.constants (32 + i) ≡ 32 + n) × (slice_get table n ≡ Some (scheme_in c (entry_scheme m.signature.bank e)))

orderly_at : (modules : List Module) (k : ℕ) (m : Module) → AreOrderly modules → slice_get modules k ≡ Some m → IsOrderly m
orderly_at modules k m all at = subst IsOrderly (get_or_from_slice_get modules k m m at) (all k m (slice_get_within modules k m at))

copies_split : {A : Type 0} (f : Copy → Module → List A) (modules : List Module) (below : List Copy) (c : Copy) (others : List Copy) (m : Module) →
    slice_get modules c.member ≡ Some m → of_copies f modules (below ++ c ∷ others) ≡ of_copies f modules below ++
    (f c m ++ of_copies f modules others)
copies_split f modules [] c others m at = ap (λ o. of_module (f c) o ++ of_copies f modules others) at
copies_split f modules (d ∷ below) c others m at =
    ap (λ l. of_module (f d) (slice_get modules d.member) ++ l) (copies_split f modules below c others m at) ∙
    sym (append_assoc (of_module (f d) (slice_get modules d.member)) (of_copies f modules below) (f c m ++ of_copies f modules others))

module _ (modules : List Module) (all : AreOrderly modules) (table : List Scheme) where
  -- the numbers of a copy, and those that are behind it
  copy_finds : (c : Copy) (m : Module) (from : ℕ) (exported : ℕ → ℕ) → slice_get modules c.member ≡ Some m →
      ((i : ℕ) → i < length m.signature.constants.items → c.constants (32 + i) ≡ hidden_or from (place_in m.hidden_constants.items (32 + i)) (exported i)) →
      (front rest : List Scheme) → from ≡ 32 + length front → table ≡ front ++ (hidden_schemes c m ++ rest) → Finds modules table c
  copy_finds c m from exported at numbers front rest f t k there i e has j p =
      let same : m ≡ k = same_Some m k (sym at ∙ there) in
      let has_m = subst (λ k. slice_get k.signature.constants.items i ≡ Some e) (sym same) has in
      let p_m = subst (λ k. place_in k.hidden_constants.items (32 + i) ≡ Some j) (sym same) p in
      let n = numbers i (slice_get_within m.signature.constants.items i e has_m) ∙ ap (λ o. hidden_or from o (exported i)) p_m in (
        length front + j,
        (let z : c.constants (32 + i) ≡ 32 + (length front + j) = omega (arith, n, f) in z),
        ap (λ l. slice_get l (length front + j)) t ∙
            found_behind front (hidden_schemes c m ++ rest) j (scheme_in c (entry_scheme k.signature.bank e)) (found_front (hidden_schemes c m) rest j (scheme_in c (entry_scheme k.signature.bank e))
            (hidden_found c m (orderly_at modules c.member m all at) i j e has_m p_m ∙ ap (λ k. Some (scheme_in c (entry_scheme k.signature.bank e))) same)),
      )

  below_finds : {above : Module} {a : Copy} {before after : Next} {ks : List ℕ} {cs : List Copy} → CopiesBelow modules above a before ks cs after →
      (front rest : List Scheme) → before.constants ≡ 32 + length front →
      table ≡ front ++ (of_copies hidden_schemes modules cs ++ rest) → (after.constants ≡ 32 + length (front ++ of_copies hidden_schemes modules cs)) × EachOf (Finds modules table) cs
  below_finds (none_below above a n) front rest f t = (f ∙ ap (λ l. 32 + length l) (sym (append-nil front)), tt)
  below_finds (one_below above a before middle after m c ks below others cs at b is more e) front rest f t =
      let hs = hidden_schemes c m in
      let lower = of_copies hidden_schemes modules below in
      let upper = of_copies hidden_schemes modules others in
      let split : of_copies hidden_schemes modules cs ≡ lower ++ (hs ++ upper) = ap (of_copies hidden_schemes modules) e ∙ copies_split hidden_schemes modules below c others m at in
      let t1 : table ≡ front ++ (lower ++ (hs ++ (upper ++ rest))) =
      t ∙ ap (λ l. front ++ (l ++ rest)) split ∙ ap (λ l. front ++ l) (append_assoc lower (hs ++ upper) rest) ∙ ap (λ l. front ++ (lower ++ l)) (append_assoc hs upper rest) in
      let first = below_finds b front (hs ++ (upper ++ rest)) f t1 in
      let t2 : table ≡ (front ++ lower) ++ (hs ++ (upper ++ rest)) = t1 ∙ sym (append_assoc front lower (hs ++ (upper ++ rest))) in
      let own = copy_finds c m middle.constants (λ i. constant_in above a.constants (constant_at m i)) at is.constants.named (front ++ lower) (upper ++ rest) first.0 t2 in
      let many = many_hidden c m (orderly_at modules c.member m all at) in
      let l = length-append (front ++ lower) hs in
      let f0 = first.0 in
      let f3 : middle.constants + length m.hidden_constants.items ≡ 32 + length ((front ++ lower) ++ hs) = omega (arith, f0, many, l) in
      let t3 : table ≡ ((front ++ lower) ++ hs) ++ (upper ++ rest) = t2 ∙ sym (append_assoc (front ++ lower) hs (upper ++ rest)) in
      let last = below_finds more ((front ++ lower) ++ hs) rest f3 t3 in (
        last.0 ∙ ap (λ l. 32 + length l) (append_assoc (front ++ lower) hs upper ∙ append_assoc front lower (hs ++ upper) ∙ ap (λ l. front ++ l) (sym split)),
        subst (EachOf (Finds modules table)) (sym e) (each_append (Finds modules table) below (c ∷ others) first.1 (own, last.1)),
      )

-- all copies of a program
module _ (modules : List Module) (root : ℕ) (a : Assembled) (p : IsProgram modules root a) (all : AreOrderly modules) where
  abbrev table : List Scheme
  table = map (scheme_of a.program.bank) a.program.constants.items

  top_orderly : IsOrderly p.are.top
  top_orderly = orderly_at modules root p.are.top all p.are.at

  copies_find : EachOf (Finds modules table) p.copied
  copies_find =
      let front = exported_schemes p.are.copy p.are.top in
      let hs = hidden_schemes p.are.copy p.are.top in
      let lower = of_copies hidden_schemes modules p.are.below in
      let at : slice_get modules p.are.copy.member ≡ Some p.are.top = ap (slice_get modules) p.are.of_root ∙ p.are.at in
      let t1 : table ≡ front ++ (lower ++ (hs ++ [])) =
      p.tables.schemes ∙ ap (λ cs. front ++ of_copies hidden_schemes modules cs) p.are.whole ∙ ap (λ l. front ++ l) (copies_split hidden_schemes modules p.are.below p.are.copy [] p.are.top at) in
      let n = many_exported p.are.copy p.are.top top_orderly in
      let first = below_finds modules all table p.are.copies front (hs ++ []) (ap (λ k. 32 + k) (sym n)) t1 in
      let own = copy_finds modules all table p.are.copy p.are.top p.are.middle.constants
      (λ i. 32 + exported_before 32 p.are.top.hidden_constants.items i) at p.are.is_root.constants.named (front ++ lower) [] first.0
      (t1 ∙ sym (append_assoc front lower (hs ++ []))) in
      subst (EachOf (Finds modules table)) (sym p.are.whole) (each_append (Finds modules table) p.are.below (p.are.copy ∷ []) first.1 (own, tt))

  pub hidden_have_types :
      EachOf (λ c. (m : Module) → slice_get modules c.member ≡ Some m → (i : ℕ) (e : ConstantEntry) → slice_get m.signature.constants.items i ≡ Some e
      → (j : ℕ) → place_in m.hidden_constants.items (32 + i) ≡ Some j → HasType a c m i e)
      p.copied
  hidden_have_types = told p.copied copies_find
    where
      told : (cs : List Copy) → EachOf (Finds modules table) cs → EachOf (λ c. (m : Module) → slice_get modules c.member ≡ Some m → (i : ℕ)
          (e : ConstantEntry) → slice_get m.signature.constants.items i ≡ Some e → (j : ℕ) → place_in m.hidden_constants.items (32 + i) ≡ Some j →
          HasType a c m i e) cs
      told [] h = tt
      told (c ∷ cs) (h, more) = ((λ m at i e has j q. let f = h m at i e has j q in declared_at a.program.bank a.program.constants.items (c.constants (32 + i)) f.0 _ f.1 f.2), told cs more)

  pub exported_have_types : (i : ℕ) (e : ConstantEntry) → slice_get p.are.top.signature.constants.items i ≡ Some e → place_in
      p.are.top.hidden_constants.items (32 + i) ≡ None → HasType a p.are.copy p.are.top i e
  exported_have_types i e has q =
      let l = exported_below p.are.top top_orderly i e has q in
      let n =
      p.are.is_root.constants.named i (slice_get_within p.are.top.signature.constants.items i e has) ∙ ap
      (λ o. hidden_or p.are.middle.constants o (32 + exported_before 32 p.are.top.hidden_constants.items i)) q ∙
      ap (λ k. 32 + k) (before_all p.are.copy p.are.top top_orderly i (omega (arith, l))) in
      declared_at a.program.bank a.program.constants.items (p.are.copy.constants (32 + i)) i _ n
      (ap (λ l. slice_get l i) p.tables.schemes ∙ found_front (exported_schemes p.are.copy p.are.top) _ i _ (exported_found p.are.copy p.are.top top_orderly i e has q))
