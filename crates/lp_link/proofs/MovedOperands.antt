-- What an instruction reads, sets and names stays, where it is moved; the records that it names are moved up.
use Rattle.std.proofs.Common.{◌≡◌, ◌∙◌, ◌+◌, ◌*◌, ℕ, List, [], ◌∷◌, map, length, ap, refl, sym, subst}
use Rattle.std.proofs.lemmas.List.{length-map}
use Rattle.lp_term.specs.Mapped.{Map}
use Rattle.lp_code.specs.declared.instruction.Instr.{Instr}
use Rattle.lp_code.specs.declared.instruction.Instr.TheVariants as on
use Rattle.lp_code.specs.Length.{length_of}
use Rattle.lp_code.specs.Operands.{types_read, terms_read, type_set, term_set, own_set}
use Rattle.lp_code.specs.Rules.{stands_alone, names_of}
use Rattle.lp_link.specs.Renumbering.{IsMoved}

-- the type variable that an instruction makes
abbrev pub type_made : Instr → List ℕ
type_made (on.TyNew d) = d ∷ []
type_made i = []

pub record SameOperands (n : ℕ) (i j : Instr) : Type 0 where
  pub reads_types : types_read j ≡ types_read i
  pub reads_terms : terms_read j ≡ terms_read i
  pub sets_type : type_set j ≡ type_set i
  pub sets_term : term_set j ≡ term_set i
  pub makes : own_set j ≡ own_set i
  pub makes_type : type_made j ≡ type_made i
  pub alone : stands_alone j ≡ stands_alone i
  pub long : length_of j ≡ length_of i
  pub names : names_of j ≡ map (λ r. n + r) (names_of i)

-- an instruction that stays as it is names no record
same : (n : ℕ) (i j : Instr) → j ≡ i → names_of i ≡ [] → SameOperands n i j
same n i j e none = record {
  reads_types = ap types_read e;
  reads_terms = ap terms_read e;
  sets_type = ap type_set e;
  sets_term = ap term_set e;
  makes = ap own_set e;
  makes_type = ap type_made e;
  alone = ap stands_alone e;
  long = ap length_of e;
  names = ap names_of e ∙ none ∙ sym (ap (map (λ r. n + r)) none);
}

pub operands_same : (m : Map) (n : ℕ) (i j : Instr) → IsMoved m n i j → SameOperands n i j
operands_same m n (on.TyCon d k ts) j (us, e, x) =
    subst (λ j. SameOperands n (on.TyCon d k ts) j) (sym e)
    (record { reads_types = x; reads_terms = refl; sets_type = refl; sets_term = refl; makes = refl; makes_type = refl; alone = refl; long = ap (λ l. 6 + 2 * length l) x; names = refl })
operands_same m n (on.TyArr d a b) j e = same n (on.TyArr d a b) j e refl
operands_same m n (on.TyNew d) j e = same n (on.TyNew d) j e refl
operands_same m n (on.New d t) j e = same n (on.New d t) j e refl
operands_same m n (on.PutConst d c ts) j (us, e, x) =
    subst (λ j. SameOperands n (on.PutConst d c ts) j) (sym e)
    (record { reads_types = x; reads_terms = refl; sets_type = refl; sets_term = refl; makes = refl; makes_type = refl; alone = refl; long = ap (λ l. 6 + 2 * length l) x; names = refl })
operands_same m n (on.PutInt d z) j e = same n (on.PutInt d z) j e refl
operands_same m n (on.PutStr d b) j (us, e, x) =
    subst (λ j. SameOperands n (on.PutStr d b) j) (sym e)
    (record { reads_types = refl; reads_terms = refl; sets_type = refl; sets_term = refl; makes = refl; makes_type = refl; alone = refl; long = ap (λ l. 5 + length l) x; names = refl })
operands_same m n (on.PutIndex d i t) j e = same n (on.PutIndex d i t) j e refl
operands_same m n (on.PutAbs d b t) j e = same n (on.PutAbs d b t) j e refl
operands_same m n (on.PutApp d x rs) j (us, e, y) =
    subst (λ j. SameOperands n (on.PutApp d x rs) j) (sym e)
    (record {
      reads_types = refl;
      reads_terms = ap (λ l. x ∷ l) y;
      sets_type = refl;
      sets_term = refl;
      makes = refl;
      makes_type = refl;
      alone = refl;
      long = ap (λ l. 6 + 2 * length l) y;
      names = refl;
    })
operands_same m n (on.GetType i t) j e = same n (on.GetType i t) j e refl
operands_same m n (on.GetVar i d) j e = same n (on.GetVar i d) j e refl
operands_same m n (on.Get i r) j e = same n (on.Get i r) j e refl
operands_same m n (on.GetConst i c ts) j (us, e, x) =
    subst (λ j. SameOperands n (on.GetConst i c ts) j) (sym e)
    (record { reads_types = x; reads_terms = refl; sets_type = refl; sets_term = refl; makes = refl; makes_type = refl; alone = refl; long = ap (λ l. 5 + 2 * length l) x; names = refl })
operands_same m n (on.GetInt i z) j e = same n (on.GetInt i z) j e refl
operands_same m n (on.GetStr i b) j (us, e, x) =
    subst (λ j. SameOperands n (on.GetStr i b) j) (sym e)
    (record { reads_types = refl; reads_terms = refl; sets_type = refl; sets_term = refl; makes = refl; makes_type = refl; alone = refl; long = ap (λ l. 4 + length l) x; names = refl })
operands_same m n on.Neck j e = same n on.Neck j e refl
operands_same m n (on.Call c ts rs) j (us, vs, e, x, y) =
    subst (λ j. SameOperands n (on.Call c ts rs) j) (sym e)
    (record { reads_types = x; reads_terms = y; sets_type = refl; sets_term = refl; makes = refl; makes_type = refl; alone = y; long = λ j. 5 + 2 * length (x j) + 2 * length (y j); names = refl })
operands_same m n (on.CallTerm r) j e = same n (on.CallTerm r) j e refl
operands_same m n (on.Equal t l r) j e = same n (on.Equal t l r) j e refl
operands_same m n (on.Is t l r) j e = same n (on.Is t l r) j e refl
operands_same m n (on.Less l r) j e = same n (on.Less l r) j e refl
operands_same m n (on.Greater l r) j e = same n (on.Greater l r) j e refl
operands_same m n (on.AtMost l r) j e = same n (on.AtMost l r) j e refl
operands_same m n (on.AtLeast l r) j e = same n (on.AtLeast l r) j e refl
operands_same m n on.Cut j e = same n on.Cut j e refl
operands_same m n (on.Sigma d t) j e = same n (on.Sigma d t) j e refl
operands_same m n (on.All d t) j e = same n (on.All d t) j e refl
operands_same m n on.EndAll j e = same n on.EndAll j e refl
operands_same m n (on.Assume ns ts rs) j (ms, us, vs, e, w, x, y) =
    subst (λ j. SameOperands n (on.Assume ns ts rs) j) (sym e)
    (record {
      reads_types = x;
      reads_terms = y;
      sets_type = refl;
      sets_term = refl;
      makes = refl;
      makes_type = refl;
      alone = refl;
      long = (λ j. 7 + 2 * length (x j) + 2 * length (y j) + 4 * length (w j)) ∙ ap (λ l. 7 + 2 * length ts.items + 2 * length rs.items + 4 * l)
          (length-map ns.items (λ r. n + r));
      names = w;
    })
operands_same m n on.EndAssume j e = same n on.EndAssume j e refl
operands_same m n (on.Either k) j e = same n (on.Either k) j e refl
operands_same m n (on.Jump k) j e = same n (on.Jump k) j e refl
operands_same m n on.Proceed j e = same n on.Proceed j e refl
operands_same m n on.Not j e = same n on.Not j e refl
operands_same m n on.EndNot j e = same n on.EndNot j e refl
