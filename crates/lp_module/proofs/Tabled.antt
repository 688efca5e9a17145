-- The tables of a program in the making: what is put behind the kinds, constants and types of constants that stand there.
use Rattle.std.proofs.Common.{◌≡◌, ◌≢◌, ℕ, zero, suc, ◌+◌, ◌-◌, ◌<◌, List, [], ◌∷◌, ◌++◌, length, map, take, get_or, refl, sym, ap, subst, ◌∙◌, arith, Bool, true, false, nat_lt, Option, Some, None, append_assoc}
use Rattle.std.specs.Global.{Global}
use Rattle.std.specs.Prelude.{Vec, if◌then◌else◌, option_to_list, slice_get}
use Rattle.std.proofs.lemmas.List.{append-nil, map-append, get_or_default}
use Rattle.std.proofs.lemmas.Option.{slice_get-get_or}
use Rattle.std.proofs.lemmas.List.Elements.{All-head, All-tail}
use Rattle.lp_lemmas.proofs.Lists.{get_below, take_suc}
use Rattle.lp_calculus.specs.Types.{Ty}
use Rattle.lp_calculus.specs.Typing.{Scheme}
use Rattle.lp_term.specs.Nodes.{Nodes, Extends}
use Rattle.lp_model.specs.Readings.{scheme_of}
use Rattle.lp_model.specs.declared.program.ClauseFormula as code
use Rattle.lp_model.specs.declared.program.Declared.{Declared}
use Rattle.lp_sig.specs.Rows.{Row}
use Rattle.lp_sig.specs.declared.entries.ConstantEntry.{ConstantEntry}
use Rattle.lp_sig.specs.declared.entries.KindEntry.{KindEntry}
use Rattle.lp_module.specs.Making.{AreTyped, IsSoFar, IsMade}
use Rattle.lp_module.specs.Numbering.{hidden_one, following}
use Rattle.lp_module.specs.Program.{Copy, place_in, one_if_exported, exported_among, hidden_among, row_of, exported_kinds, hidden_kinds, exported_constants, hidden_constants, exported_schemes, hidden_schemes, of_module, of_copies, HasTables}
use Rattle.lp_module.specs.Sentences.{AreWithin}
use Rattle.lp_module.specs.declared.copies.Assembled.{Assembled}
use Rattle.lp_module.specs.declared.copies.GlobalName.{GlobalName}
use Rattle.lp_module.specs.declared.copies.Making.{Making}
use Rattle.lp_module.specs.declared.module.Module.{Module}
use Rattle.lp_module.specs.declared.numbers.Open.{Open}
use Rattle.lp_module.specs.inner.Assembling.{copy_of, AddsNames, AreTabled, AreCopiesOf, LeavesNames}
use Rattle.lp_module.specs.inner.Tables.{coded, ArePlaces}

-- nothing more
pub none_more : {A : Type 0} (xs : List A) → xs ≡ xs ++ []
none_more xs = sym (append-nil xs)

pub adds_none : (m : Making) → AddsNames m m [] [] []
adds_none m = record { kinds_are = none_more (map row_of m.kinds.items); constants_are = none_more (map row_of m.constants.items); schemes_are = λ s. none_more (map (scheme_of m.bank) m.declared.items) }

-- types of a bank that grows
pub schemes_later : (b c : Nodes) (ds : List Declared) → Extends b c → AreTyped b ds → map (scheme_of c) ds ≡ map (scheme_of b) ds
schemes_later b c [] e w = refl
schemes_later b c (d ∷ ds) e w = λ i. record { count = d.type_vars; body = e.same_types d.scheme.0 (All-head (λ d. d.scheme.0 < length b.types) d ds w) i } ∷ schemes_later b c ds e (All-tail (λ d. d.scheme.0 < length b.types) d ds w) i

-- what stands in a bank stands there when it has grown
pub within_later : (b c : Nodes) (ks : List code.ClauseFormula) → Extends b c → AreWithin b ks → AreWithin c ks
within_later b c ks e w = λ i d h. let q = w i d h in omega (arith, q, e.more_terms)

pub typed_later : (b c : Nodes) (ds : List Declared) → Extends b c → AreTyped b ds → AreTyped c ds
typed_later b c ds e w = λ i d h. let q = w i d h in omega (arith, q, e.more_types)

-- only the bank has grown
abbrev pub with_bank : Making → Nodes → Making
with_bank m b = record { alloc = m.alloc; bank = b; declared = m.declared; clauses = m.clauses; kinds = m.kinds; constants = m.constants; hidden_kinds = m.hidden_kinds; hidden_constants = m.hidden_constants; next = m.next }

pub bank_adds : (m : Making) (b : Nodes) → Extends m.bank b → AddsNames m (with_bank m b) [] [] []
bank_adds m b e = record {
  kinds_are = none_more (map row_of m.kinds.items);
  constants_are = none_more (map row_of m.constants.items);
  schemes_are = λ s. schemes_later m.bank b m.declared.items e s.6 ∙ none_more (map (scheme_of m.bank) m.declared.items);
}

-- only clauses were put
abbrev pub with_clauses : Making → Nodes → Vec code.ClauseFormula Global → Making
with_clauses m b ks = record { alloc = m.alloc; bank = b; declared = m.declared; clauses = ks; kinds = m.kinds; constants = m.constants; hidden_kinds = m.hidden_kinds; hidden_constants = m.hidden_constants; next = m.next }

pub clauses_add : (m : Making) (b : Nodes) (ks : Vec code.ClauseFormula Global) → Extends m.bank b → AddsNames m (with_clauses m b ks) [] [] []
clauses_add m b ks e = record {
  kinds_are = none_more (map row_of m.kinds.items);
  constants_are = none_more (map row_of m.constants.items);
  schemes_are = λ s. schemes_later m.bank b m.declared.items e s.6 ∙ none_more (map (scheme_of m.bank) m.declared.items);
}

-- one after the other
pub adds_more : (a b c : Making) (ks ks' cs cs' : List (Row (ℕ × ℕ))) (ss ss' : List Scheme) → IsMade a b → AddsNames a b ks cs ss → AddsNames b c ks' cs' ss' → AddsNames a c (ks ++ ks') (cs ++ cs') (ss ++ ss')
adds_more a b c ks ks' cs cs' ss ss' made x y = record {
  kinds_are = y.kinds_are ∙ ap (λ l. l ++ ks') x.kinds_are ∙ append_assoc (map row_of a.kinds.items) ks ks';
  constants_are = y.constants_are ∙ ap (λ l. l ++ cs') x.constants_are ∙ append_assoc (map row_of a.constants.items) cs cs';
  schemes_are = λ s. y.schemes_are (made s) ∙ ap (λ l. l ++ ss') (x.schemes_are s) ∙ append_assoc (map (scheme_of a.bank) a.declared.items) ss ss';
}

-- the same ones, said otherwise
pub adds_same : (a b : Making) (ks ks' cs cs' : List (Row (ℕ × ℕ))) (ss ss' : List Scheme) → ks ≡ ks' → cs ≡ cs' → ss ≡ ss' → AddsNames a b ks cs ss → AddsNames a b ks' cs' ss'
adds_same a b ks ks' cs cs' ss ss' e f g x = record {
  kinds_are = x.kinds_are ∙ ap (λ l. map row_of a.kinds.items ++ l) e;
  constants_are = x.constants_are ∙ ap (λ l. map row_of a.constants.items ++ l) f;
  schemes_are = λ s. x.schemes_are s ∙ ap (λ l. map (scheme_of a.bank) a.declared.items ++ l) g;
}

-- one more row
pub row_pushed : (gs gs_then : List GlobalName) (g : GlobalName) (r : Row (ℕ × ℕ)) → gs_then ≡ gs ++ g ∷ [] → row_of g ≡ r → map row_of gs_then ≡ map row_of gs ++ r ∷ []
row_pushed gs gs_then g r e is = ap (map row_of) e ∙ map-append row_of gs (g ∷ []) ∙ ap (λ x. map row_of gs ++ x ∷ []) is

pub scheme_pushed : (b : Nodes) (ds ds_then : List Declared) (d : Declared) → ds_then ≡ ds ++ d ∷ [] → map (scheme_of b) ds_then ≡ map (scheme_of b) ds ++ scheme_of b d ∷ []
scheme_pushed b ds ds_then d e = ap (map (scheme_of b)) e ∙ map-append (scheme_of b) ds (d ∷ [])

-- the number of a hidden name is none of a global one
one_at : (h : ℕ) → 0 < h → hidden_one h ≡ 1
one_at zero l = absurd (omega (arith, l))
one_at (suc h) l = refl

follows : (n : ℕ) → 0 < following n
follows n = by (nat_lt n 65535)
  where
    by : (t : Bool) → 0 < (if t then n + 1 else 65535)
    by true = omega arith
    by false = omega arith

pub hidden_row : (g : GlobalName) (name : List ℕ) (n : ℕ) → g.name.items ≡ name → g.hidden ≡ following n → row_of g ≡ (name, (1, g.arity))
hidden_row g name n e is = let one : hidden_one g.hidden ≡ 1 = ap hidden_one is ∙ one_at (following n) (follows n) in λ i. (e i, (one i, g.arity))

-- what is looked up at a place
pub some_entry : {A : Type 0} (xs ys : List A) (i : ℕ) (x : A) → ys ≡ xs → i < length ys → x ≡ get_or ys i x → slice_get xs i ≡ Some x
some_entry xs ys i x e h is = subst (λ l. slice_get l i ≡ Some x) e (slice_get-get_or ys i x h ∙ ap (λ y. Some y) (sym is))

-- the exported entries of one more place
exported_push : {A : Type 0} (first : ℕ) (hidden : List ℕ) (xs : List A) (x : A) → exported_among first hidden (xs ++ x ∷ []) ≡ exported_among first hidden xs ++ one_if_exported (place_in hidden (first + length xs)) x
exported_push first hidden [] x =
    append-nil (one_if_exported (place_in hidden first) x) ∙ ap (λ k. one_if_exported (place_in hidden k) x) (let e : first ≡ first + 0 = omega arith in e)
exported_push first hidden (y ∷ ys) x =
    ap (λ l. one_if_exported (place_in hidden first) y ++ l) (exported_push (suc first) hidden ys x) ∙
    sym (append_assoc (one_if_exported (place_in hidden first) y) (exported_among (suc first) hidden ys) (one_if_exported (place_in hidden (suc first + length ys)) x)) ∙
    ap (λ k. (one_if_exported (place_in hidden first) y ++ exported_among (suc first) hidden ys) ++ one_if_exported (place_in hidden k) x) (let e : suc first + length ys ≡ first + suc (length ys) = omega arith in e)

taken : {A : Type 0} (xs : List A) (i : ℕ) (x : A) → slice_get xs i ≡ Some x → length (take i xs) ≡ i
taken [] i x e = absurd (cc)
taken (y ∷ ys) zero x e = refl
taken (y ∷ ys) (suc i) x e = ap (λ n. suc n) (taken ys i x e)

pub exported_more : {A : Type 0} (first : ℕ) (hidden : List ℕ) (xs : List A) (i : ℕ) (x : A) → slice_get xs i ≡ Some x → exported_among first hidden (take (i + 1) xs) ≡ exported_among first hidden (take i xs) ++ one_if_exported (place_in hidden (first + i)) x
exported_more first hidden xs i x e =
    ap (λ n. exported_among first hidden (take n xs)) (let n : i + 1 ≡ suc i = omega arith in n) ∙ ap (exported_among first hidden) (take_suc xs i x e) ∙ exported_push first hidden (take i xs) x ∙
    ap (λ n. exported_among first hidden (take i xs) ++ one_if_exported (place_in hidden (first + n)) x) (taken xs i x e)

uncoded : {A : Type 0} (o : Option ℕ) (x : A) → coded 0 o ≡ 0 → one_if_exported o x ≡ x ∷ []
uncoded None x e = refl
uncoded (Some j) x e = absurd (omega (arith, e))

coded_some : {A : Type 0} (o : Option ℕ) (x : A) → coded 0 o ≢ 0 → one_if_exported o x ≡ []
coded_some None x e = absurd (e refl)
coded_some (Some j) x e = refl

module _ {A : Type 0} (first count : ℕ) (hidden : List ℕ) (xs : List A) (places : List ℕ) (are : ArePlaces first count hidden 0 places) (i p : ℕ) (h : i < count) (at : p ≡ get_or places i p) where
  place_is : p ≡ coded 0 (place_in hidden (first + i))
  place_is = at ∙ get_or_default places i p 0 (let n = are.count in omega (arith, n, h)) ∙ are.each i h

  pub one_exported : (x : A) → slice_get xs i ≡ Some x → p ≡ 0 → exported_among first hidden (take (i + 1) xs) ≡ exported_among first hidden (take i xs) ++ x ∷ []
  one_exported x e z =
      exported_more first hidden xs i x e ∙ ap (λ l. exported_among first hidden (take i xs) ++ l) (uncoded (place_in hidden (first + i)) x (sym place_is ∙ z))

  pub none_exported : count ≡ length xs → p ≢ 0 → exported_among first hidden (take (i + 1) xs) ≡ exported_among first hidden (take i xs)
  none_exported n z =
      let (x, e) = get_below xs i (omega (arith, h, n)) in
      exported_more first hidden xs i x e ∙ ap (λ l. exported_among first hidden (take i xs) ++ l) (coded_some (place_in hidden (first + i)) x (λ e. z (place_is ∙ e))) ∙
      append-nil (exported_among first hidden (take i xs))

-- the hidden entries of one more number
hidden_push : {A : Type 0} (first : ℕ) (ks : List ℕ) (k : ℕ) (xs : List A) → hidden_among first (ks ++ k ∷ []) xs ≡ hidden_among first ks xs ++ option_to_list (slice_get xs (k - first))
hidden_push first [] k xs = append-nil (option_to_list (slice_get xs (k - first)))
hidden_push first (j ∷ ks) k xs =
    ap (λ l. option_to_list (slice_get xs (j - first)) ++ l) (hidden_push first ks k xs) ∙ sym (append_assoc (option_to_list (slice_get xs (j - first))) (hidden_among first ks xs) (option_to_list (slice_get xs (k - first))))

pub one_hidden : {A : Type 0} (first : ℕ) (ks : List ℕ) (k : ℕ) (xs : List A) (x : A) → slice_get xs (k - first) ≡ Some x → hidden_among first (ks ++ k ∷ []) xs ≡ hidden_among first ks xs ++ x ∷ []
one_hidden first ks k xs x e = hidden_push first ks k xs ∙ ap (λ o. hidden_among first ks xs ++ option_to_list o) e

-- the hidden names of one more copy
copies_push : {A : Type 0} (f : Copy → Module → List A) (modules : List Module) (done : List Copy) (c : Copy) (m : Module) → slice_get modules c.member ≡ Some m → of_copies f modules (done ++ c ∷ []) ≡ of_copies f modules done ++ f c m
copies_push f modules [] c m at = append-nil (of_module (f c) (slice_get modules c.member)) ∙ ap (of_module (f c)) at
copies_push f modules (d ∷ ds) c m at =
    ap (λ l. of_module (f d) (slice_get modules d.member) ++ l) (copies_push f modules ds c m at) ∙ sym (append_assoc (of_module (f d) (slice_get modules d.member)) (of_copies f modules ds) (f c m))

module _ (modules : List Module) (top : Module) (root : Copy) (done : List Copy) (old new : Making) (t : AreTabled modules top root done old) (s : IsSoFar old) where
  -- nothing was put, or the hidden names of a copy
  pub tabled_still : AddsNames old new [] [] [] → AreTabled modules top root done new
  tabled_still x = record {
    kinds_are = x.kinds_are ∙ append-nil (map row_of old.kinds.items) ∙ t.kinds_are;
    constants_are = x.constants_are ∙ append-nil (map row_of old.constants.items) ∙ t.constants_are;
    schemes_are = x.schemes_are s ∙ append-nil (map (scheme_of old.bank) old.declared.items) ∙ t.schemes_are;
  }

  pub tabled_more : (c : Copy) (m : Module) → slice_get modules c.member ≡ Some m → AddsNames old new (hidden_kinds m) (hidden_constants m) (hidden_schemes c m) → AreTabled modules top root (done ++ c ∷ []) new
  tabled_more c m at x = record {
    kinds_are = x.kinds_are ∙ ap (λ l. l ++ hidden_kinds m) t.kinds_are ∙ put (exported_kinds top) (λ c m. hidden_kinds m);
    constants_are = x.constants_are ∙ ap (λ l. l ++ hidden_constants m) t.constants_are ∙ put (exported_constants top) (λ c m. hidden_constants m);
    schemes_are = x.schemes_are s ∙ ap (λ l. l ++ hidden_schemes c m) t.schemes_are ∙ put (exported_schemes root top) hidden_schemes;
  }
    where
      put : {A : Type 0} (xs : List A) (f : Copy → Module → List A) → (xs ++ of_copies f modules done) ++ f c m ≡ xs ++ of_copies f modules (done ++ c ∷ [])
      put xs f = append_assoc xs (of_copies f modules done) (f c m) ∙ ap (λ l. xs ++ l) (sym (copies_push f modules done c m at))

-- the exported names of a root
pub tabled_first : (modules : List Module) (top : Module) (root : Copy) (old new : Making) → (old.kinds.items ≡ []) × (old.constants.items ≡ []) × (old.declared.items ≡ []) → IsSoFar old → AddsNames old new (exported_kinds top) (exported_constants top) (exported_schemes root top) →
    AreTabled modules top root [] new
tabled_first modules top root old new (k, c, d) s x = record {
  kinds_are = x.kinds_are ∙ ap (λ l. map row_of l ++ exported_kinds top) k ∙ none_more (exported_kinds top);
  constants_are = x.constants_are ∙ ap (λ l. map row_of l ++ exported_constants top) c ∙ none_more (exported_constants top);
  schemes_are = x.schemes_are s ∙ ap (λ l. map (scheme_of old.bank) l ++ exported_schemes root top) d ∙ none_more (exported_schemes root top);
}

-- the tables of a program that was made
pub tables_are : (modules : List Module) (root : ℕ) (top : Module) (copy : Copy) (all : List Copy) (m : Making) (a : Assembled) → (w : AreCopiesOf modules root top copy all) → AreTabled modules top copy all m → a.program.bank ≡ m.bank →
    (a.kinds ≡ m.kinds) × (a.constants ≡ m.constants) × (a.program.constants ≡ m.declared) → HasTables modules w.are.top w.are.copy all a
tables_are modules root top copy all m a w t b (k, c, d) = record {
  kinds = ap (λ v. map row_of v.items) k ∙ t.kinds_are ∙ ap (λ x. exported_kinds x ++ of_copies (λ c m. hidden_kinds m) modules all) (sym w.top_is);
  constants = ap (λ v. map row_of v.items) c ∙ t.constants_are ∙ ap (λ x. exported_constants x ++ of_copies (λ c m. hidden_constants m) modules all) (sym w.top_is);
  schemes =
      (λ i. map (scheme_of (b i)) ((d i).items)) ∙ t.schemes_are ∙
      (λ i. exported_schemes (sym w.copy_is i) (sym w.top_is i) ++ of_copies hidden_schemes modules all);
}

-- the names of a copy: its kinds, then its constants
pub adds_copy : (a b c d : Making) (o : Open) → IsMade a b → IsMade b c → AddsNames a b (hidden_kinds o.module.now) [] [] → AddsNames b c [] (hidden_constants o.module.now) (hidden_schemes (copy_of 0 o) o.module.now) → AddsNames c d [] [] [] → LeavesNames a d o
adds_copy a b c d o first second x y z =
    let ks = hidden_kinds o.module.now in
    let cs = hidden_constants o.module.now in
    let ss = hidden_schemes (copy_of 0 o) o.module.now in
    adds_same a d (ks ++ ([] ++ [])) ks ([] ++ (cs ++ [])) cs ([] ++ (ss ++ [])) ss (append-nil ks) (append-nil cs) (append-nil ss)
    (adds_more a b d ks ([] ++ []) [] (cs ++ []) [] (ss ++ []) first x (adds_more b c d [] [] cs [] ss [] second y z))

-- those that a root exports
pub adds_root : (a b c : Making) (o : Open) → IsMade a b → AddsNames a b (exported_kinds o.module.now) [] [] → AddsNames b c [] (exported_constants o.module.now) (exported_schemes (copy_of 0 o) o.module.now) →
    AddsNames a c (exported_kinds o.module.now) (exported_constants o.module.now) (exported_schemes (copy_of 0 o) o.module.now)
adds_root a b c o made x y =
    let ks = exported_kinds o.module.now in
    let cs = exported_constants o.module.now in
    let ss = exported_schemes (copy_of 0 o) o.module.now in
    adds_same a c (ks ++ []) ks ([] ++ cs) cs ([] ++ ss) ss (append-nil ks) refl refl (adds_more a b c ks [] [] cs [] ss made x y)

abbrev pub with_body : ℕ → Ty → Scheme
with_body n T = record { count = n; body = T }

-- one more kind, and one more constant
pub adds_kind : (a b c : Making) (f : KindEntry → Row (ℕ × ℕ)) (es es_then : List KindEntry) (e : KindEntry) (r : Row (ℕ × ℕ)) → IsMade a b → es_then ≡ es ++ e ∷ [] → r ≡ f e → AddsNames a b (map f es) [] [] → AddsNames b c (r ∷ []) [] [] → AddsNames a c (map f es_then) [] []
adds_kind a b c f es es_then e r made is same x y =
    adds_same a c (map f es ++ r ∷ []) (map f es_then) ([] ++ []) [] ([] ++ []) [] (ap (λ r. map f es ++ r ∷ []) same ∙ sym (map-append f es (e ∷ [])) ∙ ap (map f) (sym is)) refl refl
    (adds_more a b c (map f es) (r ∷ []) [] [] [] [] made x y)

pub adds_constant : (a b c : Making) (to : Nodes) (f : ConstantEntry → Row (ℕ × ℕ)) (g : ConstantEntry → Scheme) (es es_then : List ConstantEntry) (e : ConstantEntry) (s : Scheme) → IsMade a b → Extends b.bank to → es_then ≡ es ++ e ∷ [] → s ≡ g e →
    AddsNames a b [] (map f es) (map g es) → AddsNames (with_bank b to) c [] (f e ∷ []) (s ∷ []) → AddsNames a c [] (map f es_then) (map g es_then)
adds_constant a b c to f g es es_then e s made grown is same x y =
    adds_same a c ([] ++ ([] ++ [])) [] (map f es ++ ([] ++ f e ∷ [])) (map f es_then) (map g es ++ ([] ++ s ∷ [])) (map g es_then) refl (sym (map-append f es (e ∷ [])) ∙ ap (map f) (sym is))
    (ap (λ s. map g es ++ s ∷ []) same ∙ sym (map-append g es (e ∷ [])) ∙ ap (map g) (sym is))
    (adds_more a b c [] ([] ++ []) (map f es) ([] ++ f e ∷ []) (map g es) ([] ++ s ∷ []) made x
    (adds_more b (with_bank b to) c [] [] [] (f e ∷ []) [] (s ∷ []) (λ z. (within_later b.bank to b.clauses.items grown z.0, z.1, z.2, z.3, z.4, z.5, typed_later b.bank to b.declared.items grown z.6)) (bank_adds b to grown) y))
