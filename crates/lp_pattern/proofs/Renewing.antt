-- Values of variables on distinct eigenconstants: the abstraction of the eigenconstants over a new variable on some of them.
use Rattle.std.proofs.Common.{◌≡◌, ℕ, zero, suc, ◌-◌, ◌≤◌, List, [], ◌∷◌, ◌++◌, map, length, ◌∙◌, refl, sym, ap, arith, Bool, true, false, nat_eq, ◌||◌, if◌then◌else◌}
use Rattle.std.specs.Prelude.{◌+◌, min, nat_le, nat_lt, not}
use Rattle.std.proofs.lemmas.Bool.Decides.{nat_tests}
use Rattle.std.proofs.lemmas.List.{map-append}
use Rattle.lp_calculus.specs.Term.{Term, Atom, index, atom, abs, app, apply, shift, eigen, logic}
use Rattle.lp_calculus.specs.Fill.{fill, raise, indexed, abstracted}
use Rattle.lp_term.specs.Spine.{abstractions}
use Rattle.lp_model.specs.Patterns.{eigens, member, chosen, agreeing}
use Rattle.lp_model.specs.Look.{are_distinct, are_above}
use Rattle.lp_model.specs.Scan.{Side, allows, pattern, renewal}
use Rattle.lp_term.proofs.Walks.{map_map}
use Rattle.lp_lemmas.proofs.Booleans.{or_false_left, or_false_right, and_true_left, and_true_right, or_true_left}
use Rattle.lp_lemmas.proofs.Numbers.{nat_eq_self}
use Rattle.lp_pattern.specs.Scanning.{allowed_places, agreeing_places}

-- below n abstractions
unfoldable pub raises : ℕ → (Atom → Term) → Atom → Term
raises zero f = f
raises (suc n) f = raise (raises n f)

mutual
  unfolding raises

  pub fill_abstractions : (n : ℕ) (f : Atom → Term) (t : Term) → fill f (abstractions n t) ≡ abstractions n (fill (raises n f) t)
  fill_abstractions zero f t = refl
  fill_abstractions (suc n) f t = fill_abstractions n f (abs t)

pub abs_inside : (n : ℕ) (t : Term) → abs (abstractions n t) ≡ abstractions n (abs t)
abs_inside zero t = refl
abs_inside (suc n) t = abs_inside n (abs t)

pub shift_index : (n : ℕ) → shift 0 1 (index n) ≡ index (suc n)
shift_index n =
    let e : nat_lt n 0 ≡ false = grind (arith, nat_tests) in
    let q : n + 1 ≡ suc n = omega arith in
    ap (λ b. if b then index n else index (n + 1)) e ∙ ap index q

shift_choice : (n : ℕ) (a : Atom) (b : Bool) → shift 0 1 (if b then index n else atom a) ≡ (if b then index (suc n) else atom a)
shift_choice n a true = shift_index n
shift_choice n a false = refl

mutual
  unfolding raises

  pub raises_eigen : (n c k : ℕ) → raises n (indexed c) (eigen k) ≡ (if nat_eq k c then index n else atom (eigen k))
  raises_eigen zero c k = refl
  raises_eigen (suc n) c k = ap (shift 0 1) (raises_eigen n c k) ∙ shift_choice n (eigen k) (nat_eq k c)

mutual
  unfolding raises

  raises_logic : (n c x l : ℕ) → raises n (indexed c) (logic x l) ≡ atom (logic x l)
  raises_logic zero c x l = refl
  raises_logic (suc n) c x l = ap (shift 0 1) (raises_logic n c x l)

pub fill_apply : (f : Atom → Term) (ts : List Term) (h : Term) → fill f (apply h ts) ≡ apply (fill f h) (map (fill f) ts)
fill_apply f [] h = refl
fill_apply f (t ∷ ts) h = fill_apply f ts (app h t)

-- what stands for an eigenconstant below the abstractions of others
unfoldable pub placed : List ℕ → ℕ → Term
placed [] k = atom (eigen k)
placed (c ∷ cs) k = fill (raises (length cs) (indexed c)) (placed cs k)

eigens_map : (ks : List ℕ) → eigens ks ≡ map (λ k. atom (eigen k)) ks
eigens_map [] = refl
eigens_map (k ∷ ks) = ap (λ l. atom (eigen k) ∷ l) (eigens_map ks)

mutual
  unfolding placed

  abstracted_places : (cs ks : List ℕ) (x l : ℕ) → abstracted cs (apply (atom (logic x l)) (eigens ks)) ≡ abstractions (length cs) (apply (atom (logic x l)) (map (placed cs) ks))
  abstracted_places [] ks x l = ap (apply (atom (logic x l))) (eigens_map ks)
  abstracted_places (c ∷ cs) ks x l =
      ap (λ t. abs (fill (indexed c) t)) (abstracted_places cs ks x l) ∙
      ap abs (fill_abstractions (length cs) (indexed c) (apply (atom (logic x l)) (map (placed cs) ks))) ∙
      abs_inside (length cs) (fill (raises (length cs) (indexed c)) (apply (atom (logic x l)) (map (placed cs) ks))) ∙
      ap (λ t. abstractions (length cs) (abs t))
      (fill_apply (raises (length cs) (indexed c)) (map (placed cs) ks) (atom (logic x l)) ∙
      (λ i. apply (raises_logic (length cs) c x l i) (map_map (fill (raises (length cs) (indexed c))) (placed cs) ks i)))

-- members
pub not_true : (a : Bool) → not a ≡ true → a ≡ false
not_true true e = absurd (cc)
not_true false e = refl

mutual
  unfolding placed

  placed_not : (cs : List ℕ) (k : ℕ) → member k cs ≡ false → placed cs k ≡ atom (eigen k)
  placed_not [] k e = refl
  placed_not (c ∷ cs) k e =
      ap (fill (raises (length cs) (indexed c))) (placed_not cs k (or_false_right (nat_eq k c) (member k cs) e)) ∙ raises_eigen (length cs) c k ∙
      ap (λ b. if b then index (length cs) else atom (eigen k)) (or_false_left (nat_eq k c) (member k cs) e)

mutual
  unfolding placed

  pub placed_first : (c : ℕ) (cs : List ℕ) → member c cs ≡ false → placed (c ∷ cs) c ≡ index (length cs)
  placed_first c cs e =
      let q : nat_eq c c ≡ true = grind (arith, nat_tests) in
      ap (fill (raises (length cs) (indexed c))) (placed_not cs c e) ∙ raises_eigen (length cs) c c ∙ ap (λ b. if b then index (length cs) else atom (eigen c)) q

mutual
  unfolding placed

  placed_in : (cs : List ℕ) (k : ℕ) → member k cs ≡ true → (i : ℕ) × (placed cs k ≡ index i)
  placed_in [] k e = absurd (cc)
  placed_in (c ∷ cs) k e = go (member k cs) refl (λ h. placed_in cs k h)
    where
      go : (b : Bool) → member k cs ≡ b → (member k cs ≡ true → (i : ℕ) × (placed cs k ≡ index i)) → (i : ℕ) × (fill (raises (length cs) (indexed c)) (placed cs k) ≡ index i)
      go true h f = let w = f h in (w.0, ap (fill (raises (length cs) (indexed c))) w.1)
      go false h f = (
        length cs,
        ap (fill (raises (length cs) (indexed c))) (placed_not cs k h) ∙ raises_eigen (length cs) c k ∙
            ap (λ b. if b then index (length cs) else atom (eigen k)) (or_true_left (nat_eq k c) (member k cs) e h),
      )

mutual
  unfolding placed

  placed_more : (c : ℕ) (cs : List ℕ) (k : ℕ) → member k cs ≡ true → placed (c ∷ cs) k ≡ placed cs k
  placed_more c cs k e = let w = placed_in cs k e in ap (fill (raises (length cs) (indexed c))) w.1 ∙ sym w.1

or_true : (a : Bool) → (a || true) ≡ true
or_true true = refl
or_true false = refl

member_first : (k : ℕ) (ks : List ℕ) → member k (k ∷ ks) ≡ true
member_first k ks = ap (λ b. b || member k ks) (nat_eq_self k)

member_behind : (j k : ℕ) (ks : List ℕ) → member j ks ≡ true → member j (k ∷ ks) ≡ true
member_behind j k ks e = ap (λ b. nat_eq j k || b) e ∙ or_true (nat_eq j k)

same_chosen : {A : Type 0} (f g : ℕ → A) (p : ℕ → Bool) (ks : List ℕ) → ((k : ℕ) → member k ks ≡ true → f k ≡ g k) → map f (chosen p ks) ≡ map g (chosen p ks)
same_chosen f g p [] h = refl
same_chosen f g p (k ∷ ks) h = go (p k) (same_chosen f g p ks (λ j e. h j (member_behind j k ks e)))
  where
    go : (b : Bool) → map f (chosen p ks) ≡ map g (chosen p ks) → map f (if b then k ∷ chosen p ks else chosen p ks) ≡ map g (if b then k ∷ chosen p ks else chosen p ks)
    go true ih = λ i. h k (member_first k ks) i ∷ ih i
    go false ih = ih

-- eigenconstants that are not among the abstracted ones
high_not : (m : ℕ) (cs : List ℕ) (k : ℕ) → are_above m cs ≡ true → k ≤ m → member k cs ≡ false
high_not m [] k e l = refl
high_not m (c ∷ cs) k e l =
    let q : nat_lt m c ≡ true = and_true_left (nat_lt m c) (are_above m cs) e in
    let n : nat_eq k c ≡ false = grind (arith, nat_tests) in
    ap (λ b. b || member k cs) n ∙ high_not m cs k (and_true_right (nat_lt m c) (are_above m cs) e) l

low_places : (m : ℕ) (cs is : List ℕ) → are_above m cs ≡ true → map (placed cs) (chosen (λ k. nat_le k m) is) ≡ eigens (chosen (λ k. nat_le k m) is)
low_places m cs [] e = refl
low_places m cs (a ∷ is) e = go (nat_le a m) refl (low_places m cs is e)
  where
    go : (b : Bool) → nat_le a m ≡ b → map (placed cs) (chosen (λ k. nat_le k m) is) ≡ eigens (chosen (λ k. nat_le k m) is) →
        map (placed cs) (if b then a ∷ chosen (λ k. nat_le k m) is else chosen (λ k. nat_le k m) is) ≡ eigens (if b then a ∷ chosen (λ k. nat_le k m) is else chosen (λ k. nat_le k m) is)
    go true q ih = let l : a ≤ m = grind (arith, nat_tests) in λ i. placed_not cs a (high_not m cs a e l) i ∷ ih i
    go false q ih = ih

-- the places of those that stay
pub chosen_places : (s : Side) (cs : List ℕ) → are_distinct cs ≡ true → map (placed cs) (chosen (allows s) cs) ≡ allowed_places s (length cs) cs
chosen_places s [] e = refl
chosen_places s (c ∷ cs) e = go (allows s c) (chosen_places s cs (and_true_right (not (member c cs)) (are_distinct cs) e))
  where
    behind : map (placed (c ∷ cs)) (chosen (allows s) cs) ≡ map (placed cs) (chosen (allows s) cs)
    behind = same_chosen (placed (c ∷ cs)) (placed cs) (allows s) cs (λ k q. placed_more c cs k q)

    one_less : suc (length cs) - 1 ≡ length cs
    one_less = omega arith

    go : (b : Bool) → map (placed cs) (chosen (allows s) cs) ≡ allowed_places s (length cs) cs →
        map (placed (c ∷ cs)) (if b then c ∷ chosen (allows s) cs else chosen (allows s) cs) ≡
        (if b then index (suc (length cs) - 1) ∷ allowed_places s (suc (length cs) - 1) cs else allowed_places s (suc (length cs) - 1) cs)
    go true ih = λ i. (placed_first c cs (not_true (member c cs) (and_true_left (not (member c cs)) (are_distinct cs) e)) ∙ ap index (sym one_less)) i ∷
        (behind ∙ ih ∙ ap (λ n. allowed_places s n cs) (sym one_less)) i
    go false ih = behind ∙ ih ∙ ap (λ n. allowed_places s n cs) (sym one_less)

-- pruning and lowering
pub renewed_value : (s : Side) (next y m : ℕ) (b : List ℕ) → are_distinct b ≡ true → are_above m b ≡ true →
    (renewal s next (pattern y m b)).value ≡
    abstractions (length b) (apply (atom (logic next (min s.level m))) (eigens (chosen (λ k. nat_le k m) s.arguments) ++ allowed_places s (length b) b))
renewed_value s next y m b d a =
    abstracted_places b (chosen (λ k. nat_le k m) s.arguments ++ chosen (allows s) b) next (min s.level m) ∙
    ap (λ l. abstractions (length b) (apply (atom (logic next (min s.level m))) l))
    (map-append (placed b) (chosen (λ k. nat_le k m) s.arguments) (chosen (allows s) b) ∙ (λ i. low_places m b s.arguments a i ++ chosen_places s b d i))

same_agreed : {A : Type 0} (f g : ℕ → A) (is bs : List ℕ) → ((k : ℕ) → member k is ≡ true → f k ≡ g k) → map f (agreeing is bs) ≡ map g (agreeing is bs)
same_agreed f g [] bs h = refl
same_agreed f g (a ∷ is) [] h = refl
same_agreed f g (a ∷ is) (b ∷ bs) h = go (nat_eq a b) (same_agreed f g is bs (λ j e. h j (member_behind j a is e)))
  where
    go : (t : Bool) → map f (agreeing is bs) ≡ map g (agreeing is bs) → map f (if t then a ∷ agreeing is bs else agreeing is bs) ≡ map g (if t then a ∷ agreeing is bs else agreeing is bs)
    go true ih = λ i. h a (member_first a is) i ∷ ih i
    go false ih = ih

same_agreeing : (c : ℕ) (cs bs : List ℕ) → map (placed (c ∷ cs)) (agreeing cs bs) ≡ map (placed cs) (agreeing cs bs)
same_agreeing c cs bs = same_agreed (placed (c ∷ cs)) (placed cs) cs bs (λ k q. placed_more c cs k q)

-- the places at which two patterns agree
pub agreed_places : (is bs : List ℕ) → are_distinct is ≡ true → map (placed is) (agreeing is bs) ≡ agreeing_places (length is) is bs
agreed_places [] bs e = refl
agreed_places (c ∷ cs) [] e = refl
agreed_places (c ∷ cs) (b ∷ bs) e = go (nat_eq c b) (agreed_places cs bs (and_true_right (not (member c cs)) (are_distinct cs) e))
  where
    one_less : suc (length cs) - 1 ≡ length cs
    one_less = omega arith

    go : (t : Bool) → map (placed cs) (agreeing cs bs) ≡ agreeing_places (length cs) cs bs →
        map (placed (c ∷ cs)) (if t then c ∷ agreeing cs bs else agreeing cs bs) ≡
        (if t then index (suc (length cs) - 1) ∷ agreeing_places (suc (length cs) - 1) cs bs else agreeing_places (suc (length cs) - 1) cs bs)
    go true ih = λ i. (placed_first c cs (not_true (member c cs) (and_true_left (not (member c cs)) (are_distinct cs) e)) ∙ ap index (sym one_less)) i ∷
        (same_agreeing c cs bs ∙ ih ∙ ap (λ n. agreeing_places n cs bs) (sym one_less)) i
    go false ih = same_agreeing c cs bs ∙ ih ∙ ap (λ n. agreeing_places n cs bs) (sym one_less)

pub joined_value : (next x l : ℕ) (a b : List ℕ) → are_distinct a ≡ true →
    abstracted a (apply (atom (logic next l)) (eigens (agreeing a b))) ≡ abstractions (length a) (apply (atom (logic next l)) (agreeing_places (length a) a b))
joined_value next x l a b d = abstracted_places a (agreeing a b) next l ∙ ap (λ t. abstractions (length a) (apply (atom (logic next l)) t)) (agreed_places a b d)
