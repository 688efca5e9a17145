-- The type variables that a record makes itself, before all else.
use Rattle.std.proofs.Common.{◌≡◌, ◌∙◌, ◌<◌, ◌≤◌, ℕ, zero, suc, ◌+◌, List, [], ◌∷◌, ◌++◌, length, Bool, true, false, Option, Some, None, ap, refl, sym, subst, arith, add-one}
use Rattle.std.specs.Prelude.{nat_le, not, ◌||◌, if◌then◌else◌, sum_by}
use Rattle.std.specs.List.{list_any}
use Rattle.std.proofs.lemmas.Bool.{lt-leb}
use Rattle.std.proofs.lemmas.List.{append-nil, length-append}
use Rattle.lp_calculus.specs.Types.{var}
use Rattle.lp_code.specs.declared.instruction.Instr.{Instr}
use Rattle.lp_code.specs.declared.instruction.Instr.TheVariants as on
use Rattle.lp_code.specs.declared.rule.Rule.{Rule}
use Rattle.lp_code.specs.declared.rule.Rule.TheVariants as rule
use Rattle.lp_code.specs.Length.{length_of}
use Rattle.lp_code.specs.States.{State, Home, member, passing}
use Rattle.lp_code.specs.Steps.{Later, is_own_type, put_type}
use Rattle.lp_code.specs.Rules.{is_passed}
use Rattle.lp_code.specs.Denote.{broken_by}
use Rattle.lp_gen.specs.declared.emitter.Emitter.{Emitter}
use Rattle.lp_gen.specs.inner.Running.{TypesStand, HasRoom, Hold, Leads}
use Rattle.lp_gen.specs.inner.Entering.{news, TypesMade}
use Rattle.lp_gen.proofs.Denoting.{or_none, put_leads}
use Rattle.lp_gen.proofs.TermPut.{no_sides}

-- their code

news_last : (r n : ℕ) → news r (n + 1) ≡ news r n ++ on.TyNew (r + n) ∷ []
news_last r n = ap (news r) (add-one n) ∙ go r n
  where
    go : (r n : ℕ) → news r (suc n) ≡ news r n ++ on.TyNew (r + n) ∷ []
    go r zero = (let z : r ≡ r + 0 = omega arith in ap (λ k. on.TyNew k ∷ []) z)
    go r (suc n) = ap (λ l. on.TyNew r ∷ l) (go (suc r) n ∙ (let z : suc r + n ≡ r + suc n = omega arith in ap (λ k. news (suc r) n ++ on.TyNew k ∷ []) z))

pub no_types_made : (e : Emitter) (n : ℕ) → n ≡ 0 → TypesMade e e n
no_types_made e n none = record {
  code_is = sym (append-nil e.code.items) ∙ ap (λ k. e.code.items ++ news e.types k) (sym none);
  types_are = omega (arith, none);
  registers_stay = refl;
}

pub type_made_more : (e mid reg e' : Emitter) (n r : ℕ) → TypesMade e mid n → r ≡ mid.types → reg.code.items ≡ mid.code.items → reg.types ≡ mid.types + 1 → reg.registers ≡ mid.registers →
    e'.code.items ≡ reg.code.items ++ on.TyNew r ∷ [] → e'.types ≡ reg.types → e'.registers ≡ reg.registers → TypesMade e e' (n + 1)
type_made_more e mid reg e' n r x is code types registers code2 types2 registers2 =
    let are = x.types_are in
    let at : r ≡ e.types + n = omega (arith, is, are) in
    record {
      code_is = code2 ∙ (λ i. (code ∙ x.code_is) i ++ on.TyNew (at i) ∷ []) ∙ Rattle.std.proofs.Common.append_assoc e.code.items (news e.types n) (on.TyNew (e.types + n) ∷ [])
          ∙ ap (λ l. e.code.items ++ l) (sym (news_last e.types n));
      types_are = omega (arith, types2, types, are);
      registers_stay = registers2 ∙ registers ∙ x.registers_stay;
    }

-- what it does

passing_all : (n : ℕ) (test : ℕ → Bool) → ((i : ℕ) → i < n → test i ≡ true) → length (passing n test) ≡ n
passing_all zero test all = refl
passing_all (suc n) test all =
    let z = length-append (passing n test) (n ∷ []) in
    let y = passing_all n test (λ i l. all i (omega (arith, l))) in
    let one : length (n ∷ []) ≡ 1 = refl in
    let here : length (passing (suc n) test) ≡ length (passing n test ++ n ∷ []) = ap (λ t. length (passing n test ++ (if t then n ∷ [] else []))) (all n (omega arith)) in
    omega (arith, z, y, one, here)

new_fine : (h : Home) (s : State) (d : ℕ) → TypesStand h d d s → d < h.self.types → s.in_body ≡ false → h.self.program ≡ true → HasRoom s s.place →
    (rest : List Instr) (r : Rule) → broken_by h s rest (on.TyNew d) r ≡ false
new_fine h s d st low before program room rest rule.Register = or_none (nat_le h.self.types d || false) false (or_none (nat_le h.self.types d) false (lt-leb h.self.types d low) refl) refl
new_fine h s d st low before program room rest rule.Unset = refl
new_fine h s d st low before program room rest rule.Set = or_none (member d s.types_set || false) false (or_none (member d s.types_set) false (st.unset d (omega arith)) refl) refl
new_fine h s d st low before program room rest rule.Constant = refl
new_fine h s d st low before program room rest rule.Typing = refl
new_fine h s d st low before program room rest rule.Index = refl
new_fine h s d st low before program room rest rule.Term = refl
new_fine h s d st low before program room rest rule.Order = before
new_fine h s d st low before program room rest rule.Head = refl
new_fine h s d st low before program room rest rule.Block = no_sides s room
new_fine h s d st low before program room rest rule.Clause = ap not program
new_fine h s d st low before program room rest rule.Key = refl

-- one type variable more
stand_more : (h : Home) (d : ℕ) (t : State) → TypesStand h d (d + 1) t → Hold t d (var d) → d + 1 ≤ 65535 → TypesStand h (d + 1) (d + 1) t
stand_more h d t st here few = record {
  few = few;
  own = omega arith;
  as_many = st.as_many;
  stand = λ i l. by_last i (Rattle.std.specs.Prelude.nat_lt i d) refl l;
  unset = st.unset;
  sound = st.sound;
}
  where
    by_last : (i : ℕ) (b : Bool) → Rattle.std.specs.Prelude.nat_lt i d ≡ b → i < d + 1 → Rattle.lp_code.specs.Symbolic.held t.now.types i ≡ Some (var i)
    by_last i true e l = st.stand i (Rattle.std.proofs.lemmas.Bool.ltb-true i d e)
    by_last i false e l =
        let z = Rattle.std.proofs.lemmas.Bool.ltb-false i d e in
        let same : d ≡ i = omega (arith, z, l) in
        subst (λ k. Rattle.lp_code.specs.Symbolic.held t.now.types k ≡ Some (var k)) same here

pub types_begin : (h : Home) (later : Later) (n d : ℕ) (s : State) → TypesStand h d d s → d + n ≤ h.self.types → d + n ≤ 65535 → s.in_body ≡ false → h.self.program ≡ true → s.frames ≡ [] →
    ((i : ℕ) → i < d + n → is_own_type h.self i ≡ true) → (t : State) × Leads h later d d (d + n) s (news d n) t × TypesStand h (d + n) (d + n) t
types_begin h later zero d s st low few before program closed own =
    let z : d ≡ d + 0 = omega arith in (
      s,
      subst (λ k. Leads h later d d k s [] s) z (record {
        runs = λ rest. refl;
        place_is = let y : sum_by length_of [] ≡ 0 = refl in omega (arith, y);
        same = record { terms = refl; terms_set = refl; in_body = refl; head_types = refl; head_arguments = refl; goals = refl; frames = refl; assumed = refl };
        kept = λ r l. refl;
        stands = st;
      }),
      subst (λ k. TypesStand h k k s) z st,
    )
types_begin h later (suc n) d s st low few before program closed own =
    let room : (p : ℕ) → HasRoom s p = λ p. ap (list_any (is_passed p)) closed in
    let many = passing_all d (is_own_type h.self) (λ i l. own i (omega (arith, l))) in
    let w = put_leads h later d s (on.TyNew d) d (var d) (ap (λ k. Some (put_type s d (var k))) many) refl refl (omega arith) st (omega (arith, low)) (room (s.place + length_of (on.TyNew d)))
    (new_fine h s d st (omega (arith, low)) before program (room s.place)) in
    let t = w.0 in
    let st1 = stand_more h d t w.1.stands w.2 (omega (arith, few)) in
    let next : d + 1 ≡ suc d = omega arith in
    let sum : suc d + n ≡ d + suc n = omega arith in
    let y = types_begin h later n (suc d) t (subst (λ k. TypesStand h k k t) next st1) (omega (arith, low)) (omega (arith, few)) (w.1.same.in_body ∙ before) program (w.1.same.frames ∙ closed)
    (λ i l. own i (omega (arith, l))) in
    let u = y.0 in
    let size = Rattle.std.proofs.lemmas.List.Sums.sum_by-append length_of (on.TyNew d ∷ []) (news (suc d) n) in
    let p = w.1.place_is in
    let q = y.1.place_is in (
      u,
      record {
        runs = λ rest. w.1.runs (news (suc d) n ++ rest) ∙ y.1.runs rest;
        place_is = omega (arith, p, q, size);
        same = record {
          terms = y.1.same.terms ∙ w.1.same.terms;
          terms_set = y.1.same.terms_set ∙ w.1.same.terms_set;
          in_body = y.1.same.in_body ∙ w.1.same.in_body;
          head_types = y.1.same.head_types ∙ w.1.same.head_types;
          head_arguments = y.1.same.head_arguments ∙ w.1.same.head_arguments;
          goals = y.1.same.goals ∙ w.1.same.goals;
          frames = y.1.same.frames ∙ w.1.same.frames;
          assumed = y.1.same.assumed ∙ w.1.same.assumed;
        };
        kept = λ r l. y.1.kept r (omega (arith, l)) ∙ w.1.kept r l;
        stands = lower h d (d + suc n) u (subst (λ k. TypesStand h k k u) sum y.2) (omega arith);
      },
      subst (λ k. TypesStand h k k u) sum y.2,
    )
  where
    lower : (h : Home) (d k : ℕ) (u : State) → TypesStand h k k u → d ≤ k → TypesStand h d k u
    lower h d k u x le = let f = x.few in record { few = omega (arith, f, le); own = le; as_many = x.as_many; stand = λ i l. x.stand i (omega (arith, l, le)); unset = x.unset; sound = x.sound }
