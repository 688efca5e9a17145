-- What is handed to assumed records: as it is kept, it is what the definition hands to them.
use Rattle.std.proofs.Common.{◌≡◌, ◌∙◌, ◌≤◌, ◌<◌, ℕ, zero, suc, List, [], ◌∷◌, ◌++◌, map, length, Bool, true, false, Option, Some, None, ap, refl, sym, subst, arith, inl, inr}
use Rattle.std.specs.Prelude.{◌^◌, ◌⊎◌, nat_eq, nat_lt, not, ◌||◌, ◌&&◌, if◌then◌else◌, is_some, is_none, slice_get, filter_map, option_and_then, unwrap_or, Vec}
use Rattle.std.specs.Global.{Global}
use Rattle.std.specs.List.{cons_option}
use Rattle.std.specs.List.{list_any}
use Rattle.std.specs.Ordering.{nat_cmp}
use Rattle.std.specs.BTreeMap.{BTreeMap, get}
use Rattle.std.proofs.lemmas.List.{length-append}
use Rattle.std.proofs.lemmas.Bool.{eqb-true}
use Rattle.lp_lemmas.proofs.Lists.{append_nil_sym, get_push}
use Rattle.lp_lemmas.proofs.Options.{none_from_is_some}
use Rattle.lp_lemmas.proofs.Numbers.{nat_eq_comm}
use Rattle.lp_lemmas.proofs.Booleans.{or_false_left, or_false_right}
use Rattle.lp_calculus.specs.Typing.{o_type}
use Rattle.lp_term.specs.declared.node.TypeId.{TypeId}
use Rattle.lp_code.specs.declared.instruction.Instr.{Instr}
use Rattle.lp_code.specs.declared.instruction.Instr.TheVariants as on
use Rattle.lp_code.specs.declared.record.Record.{Record}
use Rattle.lp_code.specs.Length.{Fits}
use Rattle.lp_code.specs.Rules.{is_assumed_record, names_of}
use Rattle.lp_code.specs.Symbolic.{Built, held}
use Rattle.lp_code.specs.States.{Captured, State, member}
use Rattle.lp_code.specs.Steps.{handed, captured_by}
use Rattle.lp_code.specs.Denote.{nothing_captured, captured_of}
use Rattle.lp_verify.specs.declared.record.Captured as kept_captured
use Rattle.lp_verify.specs.declared.built.Built as kept_built
use Rattle.lp_verify.specs.declared.registers.Registers as kept_registers
use Rattle.lp_verify.specs.Held.{value_in, is_lacking}
use Rattle.lp_verify.specs.Named.{was_named, HasNamed}
use Rattle.lp_verify.specs.inner.Made.{nothing_built}
use Rattle.lp_verify.specs.inner.Stack.{Agree}
use Rattle.lp_verify.specs.inner.Told.{is_fine, are_fine, names_badly}
use Rattle.lp_verify.specs.inner.Reads.{reads_unset}
use Rattle.lp_verify.specs.inner.Handed.{SameType, SameTerm, IsSame, captured_in, types_captured, terms_captured, IsNamed, assumption_of, IsHandedOn, handed_on, Alike, AreHanded}
use Rattle.lp_verify.specs.inner.Indices.{Store, StoreGrows}
use Rattle.lp_verify.proofs.LooseSeen.{stands_later}
use Rattle.lp_verify.proofs.Members.{member_append}

-- the names that were told

named_or : {A : Type 0} (b : Bool) (p : A) (o : Option A) → is_some (if b then Some p else o) ≡ (is_some o || b)
named_or true p None = refl
named_or true p (Some q) = refl
named_or false p None = refl
named_or false p (Some q) = refl

pub named_has : (ns : List ℕ) (p : ℕ) (old new : BTreeMap ℕ ℕ) → IsNamed ns p old new → HasNamed ns old new
named_has ns p old new h n = ap is_some (h n) ∙ named_or (member n ns) p (get nat_cmp old n)

-- values that agree

one_more : {T B : Type 0} (R : T → B → Type 0) (t : T) (b : B) (ts : List T) (bs : List B) → R t b → Alike R ts bs → Alike R (t ∷ ts) (b ∷ bs)
one_more R t b ts bs h a zero = h
one_more R t b ts bs h a (suc r) = a r

nothing_alike : {T B : Type 0} (R : T → B → Type 0) → Alike R [] []
nothing_alike R r = tt

abbrev all_of : {T : Type 0} → kept_registers.Registers T → List ℕ → List T
all_of rs ds = filter_map (value_in rs) ds

-- what stands in registers, where each holds something
module _ {T B : Type 0} (R : T → B → Type 0) (rs : kept_registers.Registers T) (xs : List (Option B)) (other : B) (same : IsSame R rs xs) where
  abbrev read : ℕ → B
  read r = unwrap_or (held xs r) other

  one_read : (d : ℕ) (o : Option T) (p : Option B) (ds : List ℕ) → Agree R o p → is_none o ≡ false → Alike R (all_of rs ds) (map read ds) → Alike R (cons_option o (all_of rs ds)) (unwrap_or p other ∷ map read ds)
  one_read d None p ds a e h = absurd (cc)
  one_read d (Some t) None ds a e h = absurd a
  one_read d (Some t) (Some b) ds a e h = one_more R t b (all_of rs ds) (map read ds) a h

  pub alike_read : (ds : List ℕ) → list_any (is_lacking rs) ds ≡ false → Alike R (all_of rs ds) (map read ds)
  alike_read [] e = nothing_alike R
  alike_read (d ∷ ds) e = one_read d (value_in rs d) (held xs d) ds (same d) (or_false_left (is_lacking rs d) (list_any (is_lacking rs) ds) e) (alike_read ds (or_false_right (is_lacking rs d) (list_any (is_lacking rs) ds) e))

one_counted : {T : Type 0} (o : Option T) (ts : List T) (n : ℕ) → is_none o ≡ false → length ts ≡ n → length (cons_option o ts) ≡ suc n
one_counted None ts n e h = absurd (cc)
one_counted (Some t) ts n e h = ap (λ n. suc n) h

pub count_read : {T : Type 0} (rs : kept_registers.Registers T) (ds : List ℕ) → list_any (is_lacking rs) ds ≡ false → length (all_of rs ds) ≡ length ds
count_read rs [] e = refl
count_read rs (d ∷ ds) e = one_counted (value_in rs d) (all_of rs ds) (length ds) (or_false_left (is_lacking rs d) (list_any (is_lacking rs) ds) e) (count_read rs ds (or_false_right (is_lacking rs d) (list_any (is_lacking rs) ds) e))

-- what the definition hands to a record

pub captured_new : (before more : List (ℕ × Captured)) (n : ℕ) → member n (map (λ (a : ℕ × Captured). a.0) before) ≡ false → captured_of (before ++ more) n ≡ captured_of more n
captured_new [] more n e = refl
captured_new ((m, c) ∷ before) more n e =
    ap (λ b. if b then c else captured_of (before ++ more) n) (nat_eq_comm m n ∙ or_false_left (nat_eq n m) (member n (map (λ (a : ℕ × Captured). a.0) before)) e)
    ∙ captured_new before more n (or_false_right (nat_eq n m) (member n (map (λ (a : ℕ × Captured). a.0) before)) e)

pub captured_here : (ns : List ℕ) (c : Captured) (n : ℕ) → member n ns ≡ true → captured_of (handed ns c) n ≡ c
captured_here [] c n e = absurd (cc)
captured_here (m ∷ ns) c n e = by_first (nat_eq n m) refl e (captured_here ns c n)
  where
    by_first : (b : Bool) → nat_eq n m ≡ b → (b || member n ns) ≡ true → (member n ns ≡ true → captured_of (handed ns c) n ≡ c) → (if nat_eq m n then c else captured_of (handed ns c) n) ≡ c
    by_first true h e go = ap (λ b. if b then c else captured_of (handed ns c) n) (nat_eq_comm m n ∙ h)
    by_first false h e go = ap (λ b. if b then c else captured_of (handed ns c) n) (nat_eq_comm m n ∙ h) ∙ go e

pub captured_nothing : (xs : List (ℕ × Captured)) (n : ℕ) → member n (map (λ (a : ℕ × Captured). a.0) xs) ≡ false → captured_of xs n ≡ nothing_captured
captured_nothing [] n e = refl
captured_nothing ((m, c) ∷ xs) n e =
    ap (λ b. if b then c else captured_of xs n) (nat_eq_comm m n ∙ or_false_left (nat_eq n m) (member n (map (λ (a : ℕ × Captured). a.0) xs)) e) ∙ captured_nothing xs n (or_false_right (nat_eq n m) (member n (map (λ (a : ℕ × Captured). a.0) xs)) e)

-- what is handed on later changes nothing where the number is not among those
pub captured_front : (before more : List (ℕ × Captured)) (n : ℕ) → member n (map (λ (a : ℕ × Captured). a.0) more) ≡ false → captured_of (before ++ more) n ≡ captured_of before n
captured_front [] more n e = captured_nothing more n e
captured_front ((m, d) ∷ before) more n e = ap (λ x. if nat_eq m n then d else x) (captured_front before more n e)

pub names_handed : (ns : List ℕ) (c : Captured) → map (λ (a : ℕ × Captured). a.0) (handed ns c) ≡ ns
names_handed [] c = refl
names_handed (n ∷ ns) c = ap (λ ms. n ∷ ms) (names_handed ns c)

captured_old : (before : List (ℕ × Captured)) (ns : List ℕ) (c : Captured) (n : ℕ) → member n ns ≡ false → captured_of (before ++ handed ns c) n ≡ captured_of before n
captured_old before ns c n e = captured_front before (handed ns c) n (ap (member n) (names_handed ns c) ∙ e)

-- what is kept for a record
kept_new : (hs : List kept_captured.Captured) (k : kept_captured.Captured) (m : BTreeMap ℕ ℕ) (n : ℕ) → get nat_cmp m n ≡ Some (length hs) → captured_in (hs ++ k ∷ []) m n ≡ Some k
kept_new hs k m n e = ap (option_and_then (slice_get (hs ++ k ∷ []))) e ∙ get_push hs k

kept_at : (hs : List kept_captured.Captured) (k : kept_captured.Captured) (o : Option ℕ) → ((p : ℕ) → o ≡ Some p → p < length hs) → option_and_then (slice_get (hs ++ k ∷ [])) o ≡ option_and_then (slice_get hs) o
kept_at hs k None h = refl
kept_at hs k (Some p) h = same_front hs (k ∷ []) p (h p refl)
  where
    same_front : {A : Type 0} (xs ys : List A) (i : ℕ) → i < length xs → slice_get (xs ++ ys) i ≡ slice_get xs i
    same_front [] ys i l = absurd (omega (arith, l))
    same_front (x ∷ xs) ys zero l = refl
    same_front (x ∷ xs) ys (suc i) l = same_front xs ys i (omega (arith, l))

some_equal : {A : Type 0} (x y : A) → Some x ≡ Some y → x ≡ y
some_equal x y e = cc

names_added : (xs : List (ℕ × Captured)) (ns : List ℕ) (c : Captured) → map (λ (a : ℕ × Captured). a.0) (xs ++ handed ns c) ≡ map (λ (a : ℕ × Captured). a.0) xs ++ ns
names_added [] ns c = names_handed ns c
names_added (x ∷ xs) ns c = ap (λ ms. x.0 ∷ ms) (names_added xs ns c)

-- records are named that never were
module _ (l : Store) (all : List Record) (hs : List kept_captured.Captured) (k : kept_captured.Captured) (old new : BTreeMap ℕ ℕ) (before : List (ℕ × Captured)) (ns : List ℕ) (c : Captured) (a : AreHanded l all hs old before)
    (named : IsNamed ns (length hs) old new) (fresh : (n : ℕ) → member n ns ≡ true → was_named old n ≡ false) where
  there : (n : ℕ) → member n ns ≡ true → captured_in (hs ++ k ∷ []) new n ≡ Some k
  there n e = kept_new hs k new n (named n ∙ ap (λ b. if b then Some (length hs) else get nat_cmp old n) e)

  elsewhere : (n : ℕ) → member n ns ≡ false → captured_in (hs ++ k ∷ []) new n ≡ captured_in hs old n
  elsewhere n e = ap (option_and_then (slice_get (hs ++ k ∷ []))) (named n ∙ ap (λ b. if b then Some (length hs) else get nat_cmp old n) e) ∙ kept_at hs k (get nat_cmp old n) (a.are_kept n)

  starts_there : (n : ℕ) → member n ns ≡ true → captured_of (before ++ handed ns c) n ≡ c
  starts_there n e = captured_new before (handed ns c) n (sym (a.are_named n) ∙ fresh n e) ∙ captured_here ns c n e

  by_name : (P : Option kept_captured.Captured → Captured → Type 0) → P (Some k) c → ((n : ℕ) → P (captured_in hs old n) (captured_of before n)) → (n : ℕ) → P (captured_in (hs ++ k ∷ []) new n) (captured_of (before ++ handed ns c) n)
  by_name P h o n = go (member n ns) refl
    where
      go : (b : Bool) → member n ns ≡ b → P (captured_in (hs ++ k ∷ []) new n) (captured_of (before ++ handed ns c) n)
      go true e = subst (λ x. P x (captured_of (before ++ handed ns c) n)) (sym (there n e)) (subst (P (Some k)) (sym (starts_there n e)) h)
      go false e = subst (λ x. P x (captured_of (before ++ handed ns c) n)) (sym (elsewhere n e)) (subst (P (captured_in hs old n)) (sym (captured_old before ns c n e)) (o n))

  by_kept : (P : ℕ → kept_captured.Captured → Type 0) → ((n : ℕ) → member n ns ≡ true → P n k) → ((n : ℕ) (x : kept_captured.Captured) → captured_in hs old n ≡ Some x → P n x) → (n : ℕ) (x : kept_captured.Captured) → captured_in (hs ++ k ∷ []) new n ≡ Some x → P n x
  by_kept P h o n x f = go (member n ns) refl
    where
      go : (b : Bool) → member n ns ≡ b → P n x
      go true e = subst (P n) (some_equal k x (sym (there n e) ∙ f)) (h n e)
      go false e = o n x (sym (elsewhere n e) ∙ f)

  pub handed_more : Alike (SameType l) k.types.items c.types → Alike (SameTerm l) k.terms.items c.terms → ((n : ℕ) → member n ns ≡ true → is_assumed_record (slice_get all n) (length k.types.items) (length k.terms.items) ≡ true)
      → (length k.types.items < 2 ^ 16) × (length k.terms.items < 2 ^ 16) → AreHanded l all (hs ++ k ∷ []) new (before ++ handed ns c)
  handed_more types terms fine few = record {
    types_alike = by_name (λ x d. Alike (SameType l) (types_captured x) d.types) types a.types_alike;
    terms_alike = by_name (λ x d. Alike (SameTerm l) (terms_captured x) d.terms) terms a.terms_alike;
    are_named = λ n. named_has ns (length hs) old new named n ∙ ap (λ b. b || member n ns) (a.are_named n) ∙ sym (ap (member n) (names_added before ns c) ∙ member_append n (map (λ (a : ℕ × Captured). a.0) before) ns);
    are_kept = λ n p e. at_end n p (member n ns) refl e;
    are_assumed = by_kept (λ n x. is_assumed_record (slice_get all n) (length x.types.items) (length x.terms.items) ≡ true) fine a.are_assumed;
    are_few = by_kept (λ n x. (length x.types.items < 2 ^ 16) × (length x.terms.items < 2 ^ 16)) (λ n e. few) a.are_few;
  }
    where
      at_end : (n p : ℕ) (b : Bool) → member n ns ≡ b → get nat_cmp new n ≡ Some p → p < length (hs ++ k ∷ [])
      at_end n p true e f =
          let q : length hs ≡ p = some_equal (length hs) p (sym (named n ∙ ap (λ b. if b then Some (length hs) else get nat_cmp old n) e) ∙ f) in
          let l = length-append hs (k ∷ []) in
          omega (arith, l, q)
      at_end n p false e f =
          let low = a.are_kept n p (sym (named n ∙ ap (λ b. if b then Some (length hs) else get nat_cmp old n) e) ∙ f) in
          let l = length-append hs (k ∷ []) in
          omega (arith, l, low)

-- when types and lists are put
pub same_later : (l k : Store) (t : kept_built.Built) (b : Built) → StoreGrows l k → SameTerm l t b → SameTerm k t b
same_later l k t b g h = (stands_later l k t.loose b.loose g h.0, g.1.stay t.of b.type h.1, h.2)

alike_weaker : {T B : Type 0} (R S : T → B → Type 0) → ((t : T) (b : B) → R t b → S t b) → (ts : List T) (bs : List B) → Alike R ts bs → Alike S ts bs
alike_weaker R S f ts bs a r = by_value (slice_get ts r) (slice_get bs r) (a r)
  where
    by_value : (o : Option _) (p : Option _) → Agree R o p → Agree S o p
    by_value None None a = tt
    by_value (Some t) None a = absurd a
    by_value None (Some b) a = absurd a
    by_value (Some t) (Some b) a = f t b a

pub handed_later : (l k : Store) (all : List Record) (hs : List kept_captured.Captured) (m : BTreeMap ℕ ℕ) (before : List (ℕ × Captured)) → StoreGrows l k → AreHanded l all hs m before → AreHanded k all hs m before
handed_later l k all hs m before g a = record {
  types_alike = λ n. alike_weaker (SameType l) (SameType k) (λ t T. g.1.stay t T) (types_captured (captured_in hs m n)) (captured_of before n).types (a.types_alike n);
  terms_alike = λ n. alike_weaker (SameTerm l) (SameTerm k) (λ t b. same_later l k t b g) (terms_captured (captured_in hs m n)) (captured_of before n).terms (a.terms_alike n);
  are_named = a.are_named;
  are_kept = a.are_kept;
  are_assumed = a.are_assumed;
  are_few = a.are_few;
}

-- the names of an ASSUME that is fine
not_other : (n m : ℕ) (f : ℕ → Bool) → (nat_eq n m || f n) ≡ false → f n ≡ false
not_other n m f e = or_false_right (nat_eq n m) (f n) e

negated : (b : Bool) → not b ≡ true → b ≡ false
negated true e = absurd (cc)
negated false e = refl

three_true : (a b c : Bool) → (a && b && c) ≡ true → (a ≡ true) × (b ≡ true) × (c ≡ true)
three_true true true true e = (refl, refl, refl)
three_true true true false e = absurd (cc)
three_true true false c e = absurd (cc)
three_true false b c e = absurd (cc)

two_true : (a b : Bool) → (a && b) ≡ true → (a ≡ true) × (b ≡ true)
two_true true true e = (refl, refl)
two_true true false e = absurd (cc)
two_true false b e = absurd (cc)

abbrev IsFresh : (all : List Record) (f : ℕ → Bool) (ts rs n : ℕ) → Type 0
IsFresh all f ts rs n = (f n ≡ false) × (is_assumed_record (slice_get all n) ts rs ≡ true)

one_fine : (k : ℕ) (all : List Record) (f : ℕ → Bool) (ts rs n x : ℕ) (b m : Bool) → nat_eq n x ≡ b → (b || m) ≡ true → IsFresh all f ts rs x → (m ≡ true → IsFresh all (λ m. nat_eq m x || f m) ts rs n) → IsFresh all f ts rs n
one_fine k all f ts rs n x true m h e here go = subst (IsFresh all f ts rs) (sym (eqb-true n x h)) here
one_fine k all f ts rs n x false m h e here go = let i = go e in (not_other n x f i.0, i.1)

pub fine_each : (k : ℕ) (all : List Record) (f : ℕ → Bool) (ts rs : ℕ) (ns : List ℕ) → are_fine k all f ts rs ns ≡ true → (n : ℕ) → member n ns ≡ true → (f n ≡ false) × (is_assumed_record (slice_get all n) ts rs ≡ true)
fine_each k all f ts rs [] e n m = absurd (cc)
fine_each k all f ts rs (x ∷ ns) e n m =
    let parts = two_true (is_fine k all f ts rs x) (are_fine k all (λ m. nat_eq m x || f m) ts rs ns) e in
    let t = three_true (nat_lt k x) (is_assumed_record (slice_get all x) ts rs) (not (f x)) parts.0 in
    one_fine k all f ts rs n x (nat_eq n x) (member n ns) refl m (negated (f x) t.2, t.1) (fine_each k all (λ m. nat_eq m x || f m) ts rs ns parts.1 n)

-- an ASSUME, or an instruction that names none
abbrev IsSilent : Instr → Type 0
IsSilent i = (assumption_of i ≡ None) × (names_of i ≡ [])

assume_or_not : (i : Instr) → ((ns : Vec ℕ Global) × (ts : Vec ℕ Global) × (rs : Vec ℕ Global) × (i ≡ on.Assume ns ts rs)) ⊎ IsSilent i
assume_or_not (on.TyCon d k ts) = inr (refl, refl)
assume_or_not (on.TyArr d a b) = inr (refl, refl)
assume_or_not (on.TyNew d) = inr (refl, refl)
assume_or_not (on.New d t) = inr (refl, refl)
assume_or_not (on.PutConst d c ts) = inr (refl, refl)
assume_or_not (on.PutInt d z) = inr (refl, refl)
assume_or_not (on.PutStr d b) = inr (refl, refl)
assume_or_not (on.PutIndex d x t) = inr (refl, refl)
assume_or_not (on.PutAbs d b t) = inr (refl, refl)
assume_or_not (on.PutApp d g rs) = inr (refl, refl)
assume_or_not (on.GetType j t) = inr (refl, refl)
assume_or_not (on.GetVar x d) = inr (refl, refl)
assume_or_not (on.Get x r) = inr (refl, refl)
assume_or_not (on.GetConst x c ts) = inr (refl, refl)
assume_or_not (on.GetInt x z) = inr (refl, refl)
assume_or_not (on.GetStr x b) = inr (refl, refl)
assume_or_not on.Neck = inr (refl, refl)
assume_or_not (on.Call c ts rs) = inr (refl, refl)
assume_or_not (on.CallTerm r) = inr (refl, refl)
assume_or_not (on.Equal t l r) = inr (refl, refl)
assume_or_not (on.Is t l r) = inr (refl, refl)
assume_or_not (on.Less l r) = inr (refl, refl)
assume_or_not (on.Greater l r) = inr (refl, refl)
assume_or_not (on.AtMost l r) = inr (refl, refl)
assume_or_not (on.AtLeast l r) = inr (refl, refl)
assume_or_not on.Cut = inr (refl, refl)
assume_or_not (on.Sigma d t) = inr (refl, refl)
assume_or_not (on.All d t) = inr (refl, refl)
assume_or_not on.EndAll = inr (refl, refl)
assume_or_not (on.Assume ns ts rs) = inl (ns, ts, rs, refl)
assume_or_not on.EndAssume = inr (refl, refl)
assume_or_not (on.Either n) = inr (refl, refl)
assume_or_not (on.Jump n) = inr (refl, refl)
assume_or_not on.Proceed = inr (refl, refl)
assume_or_not on.Not = inr (refl, refl)
assume_or_not on.EndNot = inr (refl, refl)

-- what an instruction hands on, where it may and reads nothing that is unset
abbrev pub HandsOn : Store → (all : List Record) (number : ℕ) (program : Bool) → (t : kept_registers.Registers TypeId) (r : kept_registers.Registers kept_built.Built) → State → (before : List (ℕ × Captured)) → (hs ks : List kept_captured.Captured) → (old new : BTreeMap ℕ ℕ) → Instr → Type 0
HandsOn l all k p t r s before hs ks old new i =
    AreHanded l all hs old before → Fits i → names_badly k all p (was_named old) i ≡ false → reads_unset (is_lacking t) (is_lacking r) i ≡ false → IsNamed (names_of i) (length hs) old new → IsHandedOn (assumption_of i) t r hs ks
    → AreHanded l all ks new (before ++ handed_on s (assumption_of i))

module _ (l : Store) (all : List Record) (k : ℕ) (p : Bool) (t : kept_registers.Registers TypeId) (r : kept_registers.Registers kept_built.Built) (s : State) (before : List (ℕ × Captured)) (hs ks : List kept_captured.Captured) (old new : BTreeMap ℕ ℕ)
    (types : IsSame (SameType l) t s.now.types) (terms : IsSame (SameTerm l) r s.now.terms) where
  nothing_named : (ns : List ℕ) → ns ≡ [] → IsNamed ns (length hs) old new → (n : ℕ) → get nat_cmp new n ≡ get nat_cmp old n
  nothing_named ns e named n = named n ∙ ap (λ l. if member n l then Some (length hs) else get nat_cmp old n) e

  same_handed : AreHanded l all hs old before → ((n : ℕ) → get nat_cmp new n ≡ get nat_cmp old n) → AreHanded l all hs new before
  same_handed a e = record {
    types_alike = λ n. subst (λ o. Alike (SameType l) (types_captured (option_and_then (slice_get hs) o)) (captured_of before n).types) (sym (e n)) (a.types_alike n);
    terms_alike = λ n. subst (λ o. Alike (SameTerm l) (terms_captured (option_and_then (slice_get hs) o)) (captured_of before n).terms) (sym (e n)) (a.terms_alike n);
    are_named = λ n. ap is_some (e n) ∙ a.are_named n;
    are_kept = λ n p f. a.are_kept n p (sym (e n) ∙ f);
    are_assumed = λ n x f. a.are_assumed n x (sym (ap (option_and_then (slice_get hs)) (e n)) ∙ f);
    are_few = λ n x f. a.are_few n x (sym (ap (option_and_then (slice_get hs)) (e n)) ∙ f);
  }

  silent : (i : Instr) → IsSilent i → HandsOn l all k p t r s before hs ks old new i
  silent i q a fits fine set named more =
      let none : ks ≡ hs = subst (λ o. IsHandedOn o t r hs ks) q.0 more in
      subst (λ o. AreHanded l all ks new (before ++ handed_on s o)) (sym q.0) (subst (AreHanded l all ks new) (append_nil_sym before) (subst (λ y. AreHanded l all y new before) (sym none) (same_handed a (nothing_named (names_of i) q.1 named))))

  assuming : (ns ts rs : Vec ℕ Global) → HandsOn l all k p t r s before hs ks old new (on.Assume ns ts rs)
  assuming ns ts rs a fits fine set named more =
      let x = more.0 in
      let c = captured_by s ts.items rs.items in
      let f = fine_each k all (was_named old) (length ts.items) (length rs.items) ns.items (not_false (are_fine k all (was_named old) (length ts.items) (length rs.items) ns.items) fine) in
      let read = or_false_left (list_any (is_lacking t) ts.items) (list_any (is_lacking r) rs.items) set in
      let built = or_false_right (list_any (is_lacking t) ts.items) (list_any (is_lacking r) rs.items) set in
      let types_count : length x.types.items ≡ length ts.items = ap length more.2 ∙ count_read t ts.items read in
      let terms_count : length x.terms.items ≡ length rs.items = ap length more.3 ∙ count_read r rs.items built in
      subst (λ y. AreHanded l all y new (before ++ handed ns.items c)) (sym more.1)
      (handed_more l all hs x old new before ns.items c a named (λ n m. (f n m).0)
      (subst (λ y. Alike (SameType l) y c.types) (sym more.2) (alike_read (SameType l) t s.now.types o_type types ts.items read))
      (subst (λ y. Alike (SameTerm l) y c.terms) (sym more.3) (alike_read (SameTerm l) r s.now.terms nothing_built terms rs.items built))
      (λ n m. (λ j. is_assumed_record (slice_get all n) (types_count j) (terms_count j)) ∙ (f n m).1)
      (let b = fits.1 in let d = fits.2 in (omega (arith, b, types_count), omega (arith, d, terms_count))))
    where
      not_false : (b : Bool) → not b ≡ false → b ≡ true
      not_false true e = refl
      not_false false e = absurd (cc)

  pub hands_on : (i : Instr) → HandsOn l all k p t r s before hs ks old new i
  hands_on i = elim (assume_or_not i) [ inl (ns, ts, rs, e) ↦ subst (HandsOn l all k p t r s before hs ks old new) (sym e) (assuming ns ts rs) | inr q ↦ silent i q ]

-- what a record starts with
counts : (o : Option Record) (r : Record) (ts rs : ℕ) → o ≡ Some r → is_assumed_record o ts rs ≡ true → (r.captured_types ≡ ts) × (r.captured ≡ rs)
counts o r ts rs e h =
    let t = three_true (not r.program) (nat_eq r.captured_types ts) (nat_eq r.captured rs) (ap (λ o. is_assumed_record o ts rs) (sym e) ∙ h) in
    (eqb-true r.captured_types ts t.1, eqb-true r.captured rs t.2)

pub record FewCaptured (r : Record) (o : Option kept_captured.Captured) : Type 0 where
  pub types : length (types_captured o) ≤ r.captured_types
  pub terms : length (terms_captured o) ≤ r.captured
  pub few_types : length (types_captured o) < 2 ^ 16
  pub few_terms : length (terms_captured o) < 2 ^ 16

pub few_captured : (l : Store) (all : List Record) (hs : List kept_captured.Captured) (m : BTreeMap ℕ ℕ) (before : List (ℕ × Captured)) (n : ℕ) (r : Record) → AreHanded l all hs m before → slice_get all n ≡ Some r → FewCaptured r (captured_in hs m n)
few_captured l all hs m before n r a e = go (captured_in hs m n) refl
  where
    go : (o : Option kept_captured.Captured) → captured_in hs m n ≡ o → FewCaptured r o
    go None f = record { types = omega arith; terms = omega arith; few_types = omega arith; few_terms = omega arith }
    go (Some k) f =
        let c = counts (slice_get all n) r (length k.types.items) (length k.terms.items) e (a.are_assumed n k f) in
        let l = a.are_few n k f in
        let x = c.0 in
        let y = c.1 in record { types = omega (arith, x); terms = omega (arith, y); few_types = l.0; few_terms = l.1 }

-- before the first record nothing was handed on
pub nothing_handed : (l : Store) (all : List Record) (hs : List kept_captured.Captured) (m : BTreeMap ℕ ℕ) → ((n : ℕ) → was_named m n ≡ false) → AreHanded l all hs m []
nothing_handed l all hs m none =
    let no : (n : ℕ) → get nat_cmp m n ≡ None = λ n. none_from_is_some (get nat_cmp m n) (none n) in
    let nothing : (n : ℕ) → captured_in hs m n ≡ None = λ n. ap (option_and_then (slice_get hs)) (no n) in
    record {
      types_alike = λ n. subst (λ o. Alike (SameType l) (types_captured o) []) (sym (nothing n)) (nothing_alike (SameType l));
      terms_alike = λ n. subst (λ o. Alike (SameTerm l) (terms_captured o) []) (sym (nothing n)) (nothing_alike (SameTerm l));
      are_named = none;
      are_kept = λ n p e. absurd (let z : None ≡ Some p = sym (no n) ∙ e in cc);
      are_assumed = λ n k e. absurd (let z : None ≡ Some k = sym (nothing n) ∙ e in cc);
      are_few = λ n k e. absurd (let z : None ≡ Some k = sym (nothing n) ∙ e in cc);
    }
