-- The records that are named, one record and one instruction behind the other.
use Rattle.std.proofs.Common.{◌≡◌, ◌∙◌, ◌<◌, ◌+◌, ℕ, zero, suc, List, [], ◌∷◌, length, get_or, Option, Some, Bool, true, false, ap, refl, sym, arith}
use Rattle.std.specs.Prelude.{◌||◌, ◌&&◌, nat_eq, slice_get, if◌then◌else◌}
use Rattle.std.specs.Ordering.{nat_cmp}
use Rattle.std.specs.BTreeMap.{BTreeMap, get}
use Rattle.lp_lemmas.proofs.Lists.{get_read}
use Rattle.lp_code.specs.declared.instruction.Instr.{Instr}
use Rattle.lp_code.specs.declared.record.Record.{Record}
use Rattle.lp_code.specs.States.{member}
use Rattle.lp_code.specs.Rules.{names_of, names_in, named_before}
use Rattle.lp_verify.specs.Named.{was_named, HasNamed}
use Rattle.lp_verify.specs.inner.Told.{is_fine, are_fine}
use Rattle.lp_verify.specs.inner.Handed.{IsNamed, IsNamedSoFar}
use Rattle.lp_verify.specs.inner.At.{AreNamedBefore, NamesLeft}
use Rattle.lp_verify.proofs.Joined.{or_false}
use Rattle.lp_verify.proofs.Members.{member_append}

or_assoc : (a b c : Bool) → (a || (b || c)) ≡ ((a || b) || c)
or_assoc true b c = refl
or_assoc false b c = refl

some_same : {A : Type 0} (x y : A) → Some x ≡ Some y → x ≡ y
some_same x y e = cc

pub next_named : (all : List Record) (n : ℕ) (r : Record) (k : ℕ) → slice_get all n ≡ Some r → member k (named_before (suc n) all) ≡ (member k (named_before n all) || member k (names_in r.code.items))
next_named [] n r k h = absurd (cc)
next_named (q ∷ rs) zero r k h = member_append k (names_in q.code.items) [] ∙ or_false (member k (names_in q.code.items)) ∙ ap (λ (r : Record). member k (names_in r.code.items)) (some_same q r h)
next_named (q ∷ rs) (suc n) r k h =
    let a = names_in q.code.items in
    let b = member k (names_in r.code.items) in
    member_append k a (named_before (suc n) rs) ∙ ap (λ c. member k a || c) (next_named rs n r k h) ∙ or_assoc (member k a) (member k (named_before n rs)) b ∙ ap (λ c. c || b) (sym (member_append k a (named_before n rs)))

-- a record was judged, the one of this number
pub record_named : (all : List Record) (n : ℕ) (r : Record) (old new : BTreeMap ℕ ℕ) → n < length all → r ≡ get_or all n r → AreNamedBefore n all old → HasNamed (names_in r.code.items) old new → AreNamedBefore (n + 1) all new
record_named all n r old new l is before more = λ k.
    let next : suc n ≡ n + 1 = omega arith in
    more k ∙ ap (λ b. b || member k (names_in r.code.items)) (before k) ∙ sym (next_named all n r k (get_read all all n r r refl l is)) ∙ ap (λ m. member k (named_before m all)) next

-- an instruction was run
pub names_pass : (i : Instr) (is : List Instr) (code : List Instr) (start old new : BTreeMap ℕ ℕ) → HasNamed (names_of i) old new → NamesLeft code (i ∷ is) start old → NamesLeft code is start new
names_pass i is code start old new more left = λ n.
    ap (λ b. b || member n (names_in is)) (more n) ∙ sym (or_assoc (was_named old n) (member n (names_of i)) (member n (names_in is))) ∙ ap (λ b. was_named old n || b) (sym (member_append n (names_of i) (names_in is))) ∙ left n

pub names_end : (code : List Instr) (start old : BTreeMap ℕ ℕ) → NamesLeft code [] start old → HasNamed (names_in code) start old
names_end code start old left = λ n. sym (or_false (was_named old n)) ∙ left n

or_swapped : (a b : Bool) → (b || (a || false)) ≡ (a || b)
or_swapped true true = refl
or_swapped true false = refl
or_swapped false true = refl
or_swapped false false = refl

-- one name of an ASSUME
pub fine_stops : (k : ℕ) (all : List Record) (f : ℕ → Bool) (ts rs n : ℕ) (ns : List ℕ) → is_fine k all f ts rs n ≡ false → are_fine k all f ts rs (n ∷ ns) ≡ false
fine_stops k all f ts rs n ns h = ap (λ b. b && are_fine k all (λ m. nat_eq m n || f m) ts rs ns) h

pub fine_goes : (k : ℕ) (all : List Record) (f g : ℕ → Bool) (ts rs n : ℕ) (ns : List ℕ) → is_fine k all f ts rs n ≡ true → ((m : ℕ) → g m ≡ (f m || member m (n ∷ []))) → are_fine k all f ts rs (n ∷ ns) ≡ are_fine k all g ts rs ns
fine_goes k all f g ts rs n ns h e = ap (λ b. b && are_fine k all (λ m. nat_eq m n || f m) ts rs ns) h ∙ (λ j. are_fine k all (λ m. (sym (or_swapped (nat_eq m n) (f m)) ∙ sym (e m)) j) ts rs ns)

pub name_passes : (p : ℕ) (first old new : BTreeMap ℕ ℕ) (x : ℕ) (ns left : List ℕ) → IsNamed (x ∷ []) p old new → IsNamedSoFar ns (x ∷ left) p first old → IsNamedSoFar ns left p first new
name_passes p first old new x ns left e h n = ap (λ o. if member n left then Some p else o) (e n) ∙ moved (nat_eq n x) (member n left) (get nat_cmp old n) ∙ h n
  where
    moved : (b m : Bool) (o : Option ℕ) → (if m then Some p else (if b || false then Some p else o)) ≡ (if b || m then Some p else o)
    moved true true o = refl
    moved true false o = refl
    moved false true o = refl
    moved false false o = refl
