-- What a record breaks as a whole it breaks nowhere where it is moved.
use Rattle.std.proofs.Common.{◌≡◌, ◌∙◌, ◌+◌, ℕ, ℤ, zero, suc, List, [], ◌∷◌, Bool, true, false, Option, Some, None, ap, refl, sym, arith}
use Rattle.std.specs.Prelude.{option_map, if◌then◌else◌, not, nat_eq, nat_lt, ◌&&◌, ◌||◌, is_some, is_none, slice_get, int_le}
use Rattle.std.specs.Str.{bytes_eq}
use Rattle.std.proofs.lemmas.Bool.{not-false, eqb-true, leb-true, le-ltb, ltb-false, le-leb}
use Rattle.lp_lemmas.proofs.Booleans.{and_true_left, and_true_right}
use Rattle.lp_lemmas.proofs.Numbers.{nat_eq_self}
use Rattle.lp_calculus.specs.Types.{Ty, con, arrow, var, param as type_param}
use Rattle.lp_calculus.specs.Term.{Term, Atom, index, atom, abs, app, constant, integer, text, eigen, logic, param}
use Rattle.lp_calculus.specs.Typing.{Scheme}
use Rattle.lp_term.specs.Mapped.{Map, mapped, mapped_type}
use Rattle.lp_standard.specs.Constants.{is_declared}
use Rattle.lp_model.specs.Flatten.{ends_in_o, heads_clauses}
use Rattle.lp_code.specs.declared.instruction.Instr.{Instr}
use Rattle.lp_code.specs.declared.instruction.Instr.TheVariants as on
use Rattle.lp_code.specs.declared.record.Record.{Record}
use Rattle.lp_code.specs.declared.record.RecordHead.{RecordHead}
use Rattle.lp_code.specs.declared.record.RecordHead.TheVariants.{Const, Register}
use Rattle.lp_code.specs.declared.record.Key.{Key}
use Rattle.lp_code.specs.declared.record.Key.TheVariants as key
use Rattle.lp_code.specs.declared.rule.Rule.{Rule}
use Rattle.lp_code.specs.declared.rule.Rule.TheVariants as rule
use Rattle.lp_code.specs.Groups.{PlainKey, plain_key}
use Rattle.lp_code.specs.Groups as plain
use Rattle.lp_code.specs.Symbolic.{Built, term_in}
use Rattle.lp_code.specs.States.{State, Home, member}
use Rattle.lp_code.specs.Rules.{named_before}
use Rattle.lp_code.specs.Denote.{is_named, has_neck, ends_with_proceed, is_set_by_all, sets_by_all, is_all_variable, heads, is_known_head, head_passes, key_is, with_key, keys_behind, first_key, has_right_key, broken_by_record}
use Rattle.lp_link.specs.Renumbering.{moving, moved_scheme, moved_head, moved_key, IsMoved, AllMoved, KeepsStandard}
use Rattle.lp_link.specs.inner.Renumbering.{moved_state, IsMovedHome}
use Rattle.lp_link.proofs.MovedRules.{is_none_mapped, is_some_mapped}
use Rattle.lp_link.proofs.MovedEffects.{term_same}

-- what the first argument of a head begins with
abbrev moved_at : (ℕ → ℕ) → Atom → Atom
moved_at g (constant c ts) = constant (g c) ts
moved_at g a = a

module _ (f g : ℕ → ℕ) (n : ℕ) where
  abbrev m : Map
  m = moving f g n

  set_behind : (r : ℕ) (i j : Instr) (is js : List Instr) → IsMoved m n i j → is_set_by_all js r ≡ is_set_by_all is r → is_set_by_all (j ∷ js) r ≡ is_set_by_all (i ∷ is) r
  set_behind q (on.TyCon d k ts) j is js (us, e, x) go = ap (λ j. is_set_by_all (j ∷ js) q) e ∙ go
  set_behind q (on.TyArr d a b) j is js e go = ap (λ j. is_set_by_all (j ∷ js) q) e ∙ go
  set_behind q (on.TyNew d) j is js e go = ap (λ j. is_set_by_all (j ∷ js) q) e ∙ go
  set_behind q (on.New d t) j is js e go = ap (λ j. is_set_by_all (j ∷ js) q) e ∙ go
  set_behind q (on.PutConst d c ts) j is js (us, e, x) go = ap (λ j. is_set_by_all (j ∷ js) q) e ∙ go
  set_behind q (on.PutInt d z) j is js e go = ap (λ j. is_set_by_all (j ∷ js) q) e ∙ go
  set_behind q (on.PutStr d b) j is js (us, e, x) go = ap (λ j. is_set_by_all (j ∷ js) q) e ∙ go
  set_behind q (on.PutIndex d i t) j is js e go = ap (λ j. is_set_by_all (j ∷ js) q) e ∙ go
  set_behind q (on.PutAbs d b t) j is js e go = ap (λ j. is_set_by_all (j ∷ js) q) e ∙ go
  set_behind q (on.PutApp d x rs) j is js (us, e, y) go = ap (λ j. is_set_by_all (j ∷ js) q) e ∙ go
  set_behind q (on.GetType i t) j is js e go = ap (λ j. is_set_by_all (j ∷ js) q) e ∙ go
  set_behind q (on.GetVar i d) j is js e go = ap (λ j. is_set_by_all (j ∷ js) q) e ∙ go
  set_behind q (on.Get i r) j is js e go = ap (λ j. is_set_by_all (j ∷ js) q) e ∙ go
  set_behind q (on.GetConst i c ts) j is js (us, e, x) go = ap (λ j. is_set_by_all (j ∷ js) q) e ∙ go
  set_behind q (on.GetInt i z) j is js e go = ap (λ j. is_set_by_all (j ∷ js) q) e ∙ go
  set_behind q (on.GetStr i b) j is js (us, e, x) go = ap (λ j. is_set_by_all (j ∷ js) q) e ∙ go
  set_behind q on.Neck j is js e go = ap (λ j. is_set_by_all (j ∷ js) q) e ∙ go
  set_behind q (on.Call c ts rs) j is js (us, vs, e, x, y) go = ap (λ j. is_set_by_all (j ∷ js) q) e ∙ go
  set_behind q (on.CallTerm r) j is js e go = ap (λ j. is_set_by_all (j ∷ js) q) e ∙ go
  set_behind q (on.Equal t l r) j is js e go = ap (λ j. is_set_by_all (j ∷ js) q) e ∙ go
  set_behind q (on.Is t l r) j is js e go = ap (λ j. is_set_by_all (j ∷ js) q) e ∙ go
  set_behind q (on.Less l r) j is js e go = ap (λ j. is_set_by_all (j ∷ js) q) e ∙ go
  set_behind q (on.Greater l r) j is js e go = ap (λ j. is_set_by_all (j ∷ js) q) e ∙ go
  set_behind q (on.AtMost l r) j is js e go = ap (λ j. is_set_by_all (j ∷ js) q) e ∙ go
  set_behind q (on.AtLeast l r) j is js e go = ap (λ j. is_set_by_all (j ∷ js) q) e ∙ go
  set_behind q on.Cut j is js e go = ap (λ j. is_set_by_all (j ∷ js) q) e ∙ go
  set_behind q (on.Sigma d t) j is js e go = ap (λ j. is_set_by_all (j ∷ js) q) e ∙ go
  set_behind q (on.All d t) j is js e go = ap (λ j. is_set_by_all (j ∷ js) q) e ∙ ap (λ b. nat_eq d q || b) go
  set_behind q on.EndAll j is js e go = ap (λ j. is_set_by_all (j ∷ js) q) e ∙ go
  set_behind q (on.Assume ns ts rs) j is js (ms, us, vs, e, w, x, y) go = ap (λ j. is_set_by_all (j ∷ js) q) e ∙ go
  set_behind q on.EndAssume j is js e go = ap (λ j. is_set_by_all (j ∷ js) q) e ∙ go
  set_behind q (on.Either k) j is js e go = ap (λ j. is_set_by_all (j ∷ js) q) e ∙ go
  set_behind q (on.Jump k) j is js e go = ap (λ j. is_set_by_all (j ∷ js) q) e ∙ go
  set_behind q on.Proceed j is js e go = ap (λ j. is_set_by_all (j ∷ js) q) e ∙ go
  set_behind q on.Not j is js e go = ap (λ j. is_set_by_all (j ∷ js) q) e ∙ go
  set_behind q on.EndNot j is js e go = ap (λ j. is_set_by_all (j ∷ js) q) e ∙ go

  set_same : (r : ℕ) (is js : List Instr) → AllMoved m n is js → is_set_by_all js r ≡ is_set_by_all is r
  set_same r [] [] a = refl
  set_same r (i ∷ is) (j ∷ js) (x, a) = set_behind r i j is js x (set_same r is js a)
  set_same r [] (j ∷ js) a = absurd a
  set_same r (i ∷ is) [] a = absurd a

  neck_behind : (i j : Instr) (is js : List Instr) → IsMoved m n i j → has_neck js ≡ has_neck is → has_neck (j ∷ js) ≡ has_neck (i ∷ is)
  neck_behind (on.TyCon d k ts) j is js (us, e, x) go = ap (λ j. has_neck (j ∷ js)) e ∙ go
  neck_behind (on.TyArr d a b) j is js e go = ap (λ j. has_neck (j ∷ js)) e ∙ go
  neck_behind (on.TyNew d) j is js e go = ap (λ j. has_neck (j ∷ js)) e ∙ go
  neck_behind (on.New d t) j is js e go = ap (λ j. has_neck (j ∷ js)) e ∙ go
  neck_behind (on.PutConst d c ts) j is js (us, e, x) go = ap (λ j. has_neck (j ∷ js)) e ∙ go
  neck_behind (on.PutInt d z) j is js e go = ap (λ j. has_neck (j ∷ js)) e ∙ go
  neck_behind (on.PutStr d b) j is js (us, e, x) go = ap (λ j. has_neck (j ∷ js)) e ∙ go
  neck_behind (on.PutIndex d i t) j is js e go = ap (λ j. has_neck (j ∷ js)) e ∙ go
  neck_behind (on.PutAbs d b t) j is js e go = ap (λ j. has_neck (j ∷ js)) e ∙ go
  neck_behind (on.PutApp d x rs) j is js (us, e, y) go = ap (λ j. has_neck (j ∷ js)) e ∙ go
  neck_behind (on.GetType i t) j is js e go = ap (λ j. has_neck (j ∷ js)) e ∙ go
  neck_behind (on.GetVar i d) j is js e go = ap (λ j. has_neck (j ∷ js)) e ∙ go
  neck_behind (on.Get i r) j is js e go = ap (λ j. has_neck (j ∷ js)) e ∙ go
  neck_behind (on.GetConst i c ts) j is js (us, e, x) go = ap (λ j. has_neck (j ∷ js)) e ∙ go
  neck_behind (on.GetInt i z) j is js e go = ap (λ j. has_neck (j ∷ js)) e ∙ go
  neck_behind (on.GetStr i b) j is js (us, e, x) go = ap (λ j. has_neck (j ∷ js)) e ∙ go
  neck_behind on.Neck j is js e go = ap (λ j. has_neck (j ∷ js)) e
  neck_behind (on.Call c ts rs) j is js (us, vs, e, x, y) go = ap (λ j. has_neck (j ∷ js)) e ∙ go
  neck_behind (on.CallTerm r) j is js e go = ap (λ j. has_neck (j ∷ js)) e ∙ go
  neck_behind (on.Equal t l r) j is js e go = ap (λ j. has_neck (j ∷ js)) e ∙ go
  neck_behind (on.Is t l r) j is js e go = ap (λ j. has_neck (j ∷ js)) e ∙ go
  neck_behind (on.Less l r) j is js e go = ap (λ j. has_neck (j ∷ js)) e ∙ go
  neck_behind (on.Greater l r) j is js e go = ap (λ j. has_neck (j ∷ js)) e ∙ go
  neck_behind (on.AtMost l r) j is js e go = ap (λ j. has_neck (j ∷ js)) e ∙ go
  neck_behind (on.AtLeast l r) j is js e go = ap (λ j. has_neck (j ∷ js)) e ∙ go
  neck_behind on.Cut j is js e go = ap (λ j. has_neck (j ∷ js)) e ∙ go
  neck_behind (on.Sigma d t) j is js e go = ap (λ j. has_neck (j ∷ js)) e ∙ go
  neck_behind (on.All d t) j is js e go = ap (λ j. has_neck (j ∷ js)) e ∙ go
  neck_behind on.EndAll j is js e go = ap (λ j. has_neck (j ∷ js)) e ∙ go
  neck_behind (on.Assume ns ts rs) j is js (ms, us, vs, e, w, x, y) go = ap (λ j. has_neck (j ∷ js)) e ∙ go
  neck_behind on.EndAssume j is js e go = ap (λ j. has_neck (j ∷ js)) e ∙ go
  neck_behind (on.Either k) j is js e go = ap (λ j. has_neck (j ∷ js)) e ∙ go
  neck_behind (on.Jump k) j is js e go = ap (λ j. has_neck (j ∷ js)) e ∙ go
  neck_behind on.Proceed j is js e go = ap (λ j. has_neck (j ∷ js)) e ∙ go
  neck_behind on.Not j is js e go = ap (λ j. has_neck (j ∷ js)) e ∙ go
  neck_behind on.EndNot j is js e go = ap (λ j. has_neck (j ∷ js)) e ∙ go

  neck_same : (is js : List Instr) → AllMoved m n is js → has_neck js ≡ has_neck is
  neck_same [] [] a = refl
  neck_same (i ∷ is) (j ∷ js) (x, a) = neck_behind i j is js x (neck_same is js a)
  neck_same [] (j ∷ js) a = absurd a
  neck_same (i ∷ is) [] a = absurd a

  proceeding : (is js : List Instr) → AllMoved m n is js → ends_with_proceed js ≡ ends_with_proceed is → ends_with_proceed (on.Proceed ∷ js) ≡ ends_with_proceed (on.Proceed ∷ is)
  proceeding [] [] a go = refl
  proceeding (i ∷ is) (j ∷ js) a go = go
  proceeding [] (j ∷ js) a go = absurd a
  proceeding (i ∷ is) [] a go = absurd a

  end_behind : (i j : Instr) (is js : List Instr) → IsMoved m n i j → AllMoved m n is js → ends_with_proceed js ≡ ends_with_proceed is → ends_with_proceed (j ∷ js) ≡ ends_with_proceed (i ∷ is)
  end_behind (on.TyCon d k ts) j is js (us, e, x) all go = ap (λ j. ends_with_proceed (j ∷ js)) e ∙ go
  end_behind (on.TyArr d a b) j is js e all go = ap (λ j. ends_with_proceed (j ∷ js)) e ∙ go
  end_behind (on.TyNew d) j is js e all go = ap (λ j. ends_with_proceed (j ∷ js)) e ∙ go
  end_behind (on.New d t) j is js e all go = ap (λ j. ends_with_proceed (j ∷ js)) e ∙ go
  end_behind (on.PutConst d c ts) j is js (us, e, x) all go = ap (λ j. ends_with_proceed (j ∷ js)) e ∙ go
  end_behind (on.PutInt d z) j is js e all go = ap (λ j. ends_with_proceed (j ∷ js)) e ∙ go
  end_behind (on.PutStr d b) j is js (us, e, x) all go = ap (λ j. ends_with_proceed (j ∷ js)) e ∙ go
  end_behind (on.PutIndex d i t) j is js e all go = ap (λ j. ends_with_proceed (j ∷ js)) e ∙ go
  end_behind (on.PutAbs d b t) j is js e all go = ap (λ j. ends_with_proceed (j ∷ js)) e ∙ go
  end_behind (on.PutApp d x rs) j is js (us, e, y) all go = ap (λ j. ends_with_proceed (j ∷ js)) e ∙ go
  end_behind (on.GetType i t) j is js e all go = ap (λ j. ends_with_proceed (j ∷ js)) e ∙ go
  end_behind (on.GetVar i d) j is js e all go = ap (λ j. ends_with_proceed (j ∷ js)) e ∙ go
  end_behind (on.Get i r) j is js e all go = ap (λ j. ends_with_proceed (j ∷ js)) e ∙ go
  end_behind (on.GetConst i c ts) j is js (us, e, x) all go = ap (λ j. ends_with_proceed (j ∷ js)) e ∙ go
  end_behind (on.GetInt i z) j is js e all go = ap (λ j. ends_with_proceed (j ∷ js)) e ∙ go
  end_behind (on.GetStr i b) j is js (us, e, x) all go = ap (λ j. ends_with_proceed (j ∷ js)) e ∙ go
  end_behind on.Neck j is js e all go = ap (λ j. ends_with_proceed (j ∷ js)) e ∙ go
  end_behind (on.Call c ts rs) j is js (us, vs, e, x, y) all go = ap (λ j. ends_with_proceed (j ∷ js)) e ∙ go
  end_behind (on.CallTerm r) j is js e all go = ap (λ j. ends_with_proceed (j ∷ js)) e ∙ go
  end_behind (on.Equal t l r) j is js e all go = ap (λ j. ends_with_proceed (j ∷ js)) e ∙ go
  end_behind (on.Is t l r) j is js e all go = ap (λ j. ends_with_proceed (j ∷ js)) e ∙ go
  end_behind (on.Less l r) j is js e all go = ap (λ j. ends_with_proceed (j ∷ js)) e ∙ go
  end_behind (on.Greater l r) j is js e all go = ap (λ j. ends_with_proceed (j ∷ js)) e ∙ go
  end_behind (on.AtMost l r) j is js e all go = ap (λ j. ends_with_proceed (j ∷ js)) e ∙ go
  end_behind (on.AtLeast l r) j is js e all go = ap (λ j. ends_with_proceed (j ∷ js)) e ∙ go
  end_behind on.Cut j is js e all go = ap (λ j. ends_with_proceed (j ∷ js)) e ∙ go
  end_behind (on.Sigma d t) j is js e all go = ap (λ j. ends_with_proceed (j ∷ js)) e ∙ go
  end_behind (on.All d t) j is js e all go = ap (λ j. ends_with_proceed (j ∷ js)) e ∙ go
  end_behind on.EndAll j is js e all go = ap (λ j. ends_with_proceed (j ∷ js)) e ∙ go
  end_behind (on.Assume ns ts rs) j is js (ms, us, vs, e, w, x, y) all go = ap (λ j. ends_with_proceed (j ∷ js)) e ∙ go
  end_behind on.EndAssume j is js e all go = ap (λ j. ends_with_proceed (j ∷ js)) e ∙ go
  end_behind (on.Either k) j is js e all go = ap (λ j. ends_with_proceed (j ∷ js)) e ∙ go
  end_behind (on.Jump k) j is js e all go = ap (λ j. ends_with_proceed (j ∷ js)) e ∙ go
  end_behind on.Proceed j is js e all go = ap (λ j. ends_with_proceed (j ∷ js)) e ∙ proceeding is js all go
  end_behind on.Not j is js e all go = ap (λ j. ends_with_proceed (j ∷ js)) e ∙ go
  end_behind on.EndNot j is js e all go = ap (λ j. ends_with_proceed (j ∷ js)) e ∙ go

  end_same : (is js : List Instr) → AllMoved m n is js → ends_with_proceed js ≡ ends_with_proceed is
  end_same [] [] a = refl
  end_same (i ∷ is) (j ∷ js) (x, a) = end_behind i j is js x a (end_same is js a)
  end_same [] (j ∷ js) a = absurd a
  end_same (i ∷ is) [] a = absurd a

  -- keys
  abbrev Keys : Type 0
  Keys = ℕ → Option Atom

  abbrev AreMovedKeys : Keys → Keys → Type 0
  AreMovedKeys old new = (r : ℕ) → new r ≡ option_map (moved_at g) (old r)

  with_moved : (old new : Keys) → AreMovedKeys old new → (d : ℕ) (k l : Option Atom) → l ≡ option_map (moved_at g) k → AreMovedKeys (with_key d k old) (with_key d l new)
  with_moved old new h d k l e r = by (nat_eq r d)
    where
      by : (b : Bool) → (if b then l else new r) ≡ option_map (moved_at g) (if b then k else old r)
      by true = e
      by false = h r

  keys_moved : (old new : Keys) → AreMovedKeys old new → (i j : Instr) → IsMoved m n i j → AreMovedKeys (keys_behind old i) (keys_behind new j)
  keys_moved old new h (on.TyCon d k ts) j (us, e, x) q = ap (λ j. keys_behind new j q) e ∙ h q
  keys_moved old new h (on.TyArr d a b) j e q = ap (λ j. keys_behind new j q) e ∙ h q
  keys_moved old new h (on.TyNew d) j e q = ap (λ j. keys_behind new j q) e ∙ h q
  keys_moved old new h (on.New d t) j e q = ap (λ j. keys_behind new j q) e ∙ with_moved old new h d None None refl q
  keys_moved old new h (on.PutConst d c ts) j (us, e, x) q = ap (λ j. keys_behind new j q) e ∙ with_moved old new h d (Some (constant c [])) (Some (constant (g c) [])) refl q
  keys_moved old new h (on.PutInt d z) j e q = ap (λ j. keys_behind new j q) e ∙ with_moved old new h d (Some (integer z)) (Some (integer z)) refl q
  keys_moved old new h (on.PutStr d b) j (us, e, x) q = ap (λ j. keys_behind new j q) e ∙ with_moved old new h d (Some (text b.items)) (Some (text us.items)) (ap (λ l. Some (text l)) x) q
  keys_moved old new h (on.PutIndex d i t) j e q = ap (λ j. keys_behind new j q) e ∙ with_moved old new h d None None refl q
  keys_moved old new h (on.PutAbs d b t) j e q = ap (λ j. keys_behind new j q) e ∙ with_moved old new h d None None refl q
  keys_moved old new h (on.PutApp d x rs) j (us, e, y) q = ap (λ j. keys_behind new j q) e ∙ with_moved old new h d (old x) (new x) (h x) q
  keys_moved old new h (on.GetType i t) j e q = ap (λ j. keys_behind new j q) e ∙ h q
  keys_moved old new h (on.GetVar i d) j e q = ap (λ j. keys_behind new j q) e ∙ h q
  keys_moved old new h (on.Get i r) j e q = ap (λ j. keys_behind new j q) e ∙ h q
  keys_moved old new h (on.GetConst i c ts) j (us, e, x) q = ap (λ j. keys_behind new j q) e ∙ h q
  keys_moved old new h (on.GetInt i z) j e q = ap (λ j. keys_behind new j q) e ∙ h q
  keys_moved old new h (on.GetStr i b) j (us, e, x) q = ap (λ j. keys_behind new j q) e ∙ h q
  keys_moved old new h on.Neck j e q = ap (λ j. keys_behind new j q) e ∙ h q
  keys_moved old new h (on.Call c ts rs) j (us, vs, e, x, y) q = ap (λ j. keys_behind new j q) e ∙ h q
  keys_moved old new h (on.CallTerm r) j e q = ap (λ j. keys_behind new j q) e ∙ h q
  keys_moved old new h (on.Equal t l r) j e q = ap (λ j. keys_behind new j q) e ∙ h q
  keys_moved old new h (on.Is t l r) j e q = ap (λ j. keys_behind new j q) e ∙ h q
  keys_moved old new h (on.Less l r) j e q = ap (λ j. keys_behind new j q) e ∙ h q
  keys_moved old new h (on.Greater l r) j e q = ap (λ j. keys_behind new j q) e ∙ h q
  keys_moved old new h (on.AtMost l r) j e q = ap (λ j. keys_behind new j q) e ∙ h q
  keys_moved old new h (on.AtLeast l r) j e q = ap (λ j. keys_behind new j q) e ∙ h q
  keys_moved old new h on.Cut j e q = ap (λ j. keys_behind new j q) e ∙ h q
  keys_moved old new h (on.Sigma d t) j e q = ap (λ j. keys_behind new j q) e ∙ with_moved old new h d None None refl q
  keys_moved old new h (on.All d t) j e q = ap (λ j. keys_behind new j q) e ∙ with_moved old new h d None None refl q
  keys_moved old new h on.EndAll j e q = ap (λ j. keys_behind new j q) e ∙ h q
  keys_moved old new h (on.Assume ns ts rs) j (ms, us, vs, e, w, x, y) q = ap (λ j. keys_behind new j q) e ∙ h q
  keys_moved old new h on.EndAssume j e q = ap (λ j. keys_behind new j q) e ∙ h q
  keys_moved old new h (on.Either k) j e q = ap (λ j. keys_behind new j q) e ∙ h q
  keys_moved old new h (on.Jump k) j e q = ap (λ j. keys_behind new j q) e ∙ h q
  keys_moved old new h on.Proceed j e q = ap (λ j. keys_behind new j q) e ∙ h q
  keys_moved old new h on.Not j e q = ap (λ j. keys_behind new j q) e ∙ h q
  keys_moved old new h on.EndNot j e q = ap (λ j. keys_behind new j q) e ∙ h q

  key_behind : (old new : Keys) → AreMovedKeys old new → (i j : Instr) (is js : List Instr) → IsMoved m n i j
      → ((old new : Keys) → AreMovedKeys old new → first_key new js ≡ option_map (moved_at g) (first_key old is)) → first_key new (j ∷ js) ≡ option_map (moved_at g) (first_key old (i ∷ is))
  key_behind old new h (on.TyCon d k ts) j is js (us, e, x) go = ap (λ j. first_key new (j ∷ js)) e ∙ go (keys_behind old (on.TyCon d k ts))
      (keys_behind new (on.TyCon d (m.kinds k) us)) (keys_moved old new h (on.TyCon d k ts) (on.TyCon d (m.kinds k) us) (us, refl, x))
  key_behind old new h (on.TyArr d a b) j is js e go = ap (λ j. first_key new (j ∷ js)) e ∙ go (keys_behind old (on.TyArr d a b))
      (keys_behind new (on.TyArr d a b)) (keys_moved old new h (on.TyArr d a b) (on.TyArr d a b) refl)
  key_behind old new h (on.TyNew d) j is js e go = ap (λ j. first_key new (j ∷ js)) e ∙ go (keys_behind old (on.TyNew d))
      (keys_behind new (on.TyNew d)) (keys_moved old new h (on.TyNew d) (on.TyNew d) refl)
  key_behind old new h (on.New d t) j is js e go = ap (λ j. first_key new (j ∷ js)) e ∙ go (keys_behind old (on.New d t))
      (keys_behind new (on.New d t)) (keys_moved old new h (on.New d t) (on.New d t) refl)
  key_behind old new h (on.PutConst d c ts) j is js (us, e, x) go = ap (λ j. first_key new (j ∷ js)) e ∙ go (keys_behind old (on.PutConst d c ts))
      (keys_behind new (on.PutConst d (m.constants c) us)) (keys_moved old new h (on.PutConst d c ts) (on.PutConst d (m.constants c) us)
      (us, refl, x))
  key_behind old new h (on.PutInt d z) j is js e go = ap (λ j. first_key new (j ∷ js)) e ∙ go (keys_behind old (on.PutInt d z))
      (keys_behind new (on.PutInt d z)) (keys_moved old new h (on.PutInt d z) (on.PutInt d z) refl)
  key_behind old new h (on.PutStr d b) j is js (us, e, x) go = ap (λ j. first_key new (j ∷ js)) e ∙ go (keys_behind old (on.PutStr d b))
      (keys_behind new (on.PutStr d us)) (keys_moved old new h (on.PutStr d b) (on.PutStr d us) (us, refl, x))
  key_behind old new h (on.PutIndex d i t) j is js e go = ap (λ j. first_key new (j ∷ js)) e ∙ go (keys_behind old (on.PutIndex d i t))
      (keys_behind new (on.PutIndex d i t)) (keys_moved old new h (on.PutIndex d i t) (on.PutIndex d i t) refl)
  key_behind old new h (on.PutAbs d b t) j is js e go = ap (λ j. first_key new (j ∷ js)) e ∙ go (keys_behind old (on.PutAbs d b t))
      (keys_behind new (on.PutAbs d b t)) (keys_moved old new h (on.PutAbs d b t) (on.PutAbs d b t) refl)
  key_behind old new h (on.PutApp d x rs) j is js (us, e, y) go = ap (λ j. first_key new (j ∷ js)) e ∙ go (keys_behind old (on.PutApp d x rs))
      (keys_behind new (on.PutApp d x us)) (keys_moved old new h (on.PutApp d x rs) (on.PutApp d x us) (us, refl, y))
  key_behind old new h (on.GetType i t) j is js e go = ap (λ j. first_key new (j ∷ js)) e ∙ go (keys_behind old (on.GetType i t))
      (keys_behind new (on.GetType i t)) (keys_moved old new h (on.GetType i t) (on.GetType i t) refl)
  key_behind old new h (on.GetVar i d) j is js e go = ap (λ j. first_key new (j ∷ js)) e
  key_behind old new h (on.Get i r) j is js e go = ap (λ j. first_key new (j ∷ js)) e ∙ h r
  key_behind old new h (on.GetConst i c ts) j is js (us, e, x) go = ap (λ j. first_key new (j ∷ js)) e
  key_behind old new h (on.GetInt i z) j is js e go = ap (λ j. first_key new (j ∷ js)) e
  key_behind old new h (on.GetStr i b) j is js (us, e, x) go = ap (λ j. first_key new (j ∷ js)) e ∙ ap (λ l. Some (text l)) x
  key_behind old new h on.Neck j is js e go = ap (λ j. first_key new (j ∷ js)) e
  key_behind old new h (on.Call c ts rs) j is js (us, vs, e, x, y) go = ap (λ j. first_key new (j ∷ js)) e ∙ go (keys_behind old (on.Call c ts rs))
      (keys_behind new (on.Call (m.constants c) us vs)) (keys_moved old new h (on.Call c ts rs) (on.Call (m.constants c) us vs) (us, vs, refl, x, y))
  key_behind old new h (on.CallTerm r) j is js e go = ap (λ j. first_key new (j ∷ js)) e ∙ go (keys_behind old (on.CallTerm r))
      (keys_behind new (on.CallTerm r)) (keys_moved old new h (on.CallTerm r) (on.CallTerm r) refl)
  key_behind old new h (on.Equal t l r) j is js e go = ap (λ j. first_key new (j ∷ js)) e ∙ go (keys_behind old (on.Equal t l r))
      (keys_behind new (on.Equal t l r)) (keys_moved old new h (on.Equal t l r) (on.Equal t l r) refl)
  key_behind old new h (on.Is t l r) j is js e go = ap (λ j. first_key new (j ∷ js)) e ∙ go (keys_behind old (on.Is t l r))
      (keys_behind new (on.Is t l r)) (keys_moved old new h (on.Is t l r) (on.Is t l r) refl)
  key_behind old new h (on.Less l r) j is js e go = ap (λ j. first_key new (j ∷ js)) e ∙ go (keys_behind old (on.Less l r))
      (keys_behind new (on.Less l r)) (keys_moved old new h (on.Less l r) (on.Less l r) refl)
  key_behind old new h (on.Greater l r) j is js e go = ap (λ j. first_key new (j ∷ js)) e ∙ go (keys_behind old (on.Greater l r))
      (keys_behind new (on.Greater l r)) (keys_moved old new h (on.Greater l r) (on.Greater l r) refl)
  key_behind old new h (on.AtMost l r) j is js e go = ap (λ j. first_key new (j ∷ js)) e ∙ go (keys_behind old (on.AtMost l r))
      (keys_behind new (on.AtMost l r)) (keys_moved old new h (on.AtMost l r) (on.AtMost l r) refl)
  key_behind old new h (on.AtLeast l r) j is js e go = ap (λ j. first_key new (j ∷ js)) e ∙ go (keys_behind old (on.AtLeast l r))
      (keys_behind new (on.AtLeast l r)) (keys_moved old new h (on.AtLeast l r) (on.AtLeast l r) refl)
  key_behind old new h on.Cut j is js e go = ap (λ j. first_key new (j ∷ js)) e ∙ go (keys_behind old on.Cut) (keys_behind new on.Cut) (keys_moved old new h on.Cut on.Cut refl)
  key_behind old new h (on.Sigma d t) j is js e go = ap (λ j. first_key new (j ∷ js)) e ∙ go (keys_behind old (on.Sigma d t))
      (keys_behind new (on.Sigma d t)) (keys_moved old new h (on.Sigma d t) (on.Sigma d t) refl)
  key_behind old new h (on.All d t) j is js e go = ap (λ j. first_key new (j ∷ js)) e ∙ go (keys_behind old (on.All d t))
      (keys_behind new (on.All d t)) (keys_moved old new h (on.All d t) (on.All d t) refl)
  key_behind old new h on.EndAll j is js e go = ap (λ j. first_key new (j ∷ js)) e ∙ go (keys_behind old on.EndAll) (keys_behind new on.EndAll) (keys_moved old new h on.EndAll on.EndAll refl)
  key_behind old new h (on.Assume ns ts rs) j is js (ms, us, vs, e, w, x, y) go = ap (λ j. first_key new (j ∷ js)) e ∙ go
      (keys_behind old (on.Assume ns ts rs)) (keys_behind new (on.Assume ms us vs))
      (keys_moved old new h (on.Assume ns ts rs) (on.Assume ms us vs) (ms, us, vs, refl, w, x, y))
  key_behind old new h on.EndAssume j is js e go = ap (λ j. first_key new (j ∷ js)) e ∙ go (keys_behind old on.EndAssume)
      (keys_behind new on.EndAssume) (keys_moved old new h on.EndAssume on.EndAssume refl)
  key_behind old new h (on.Either k) j is js e go = ap (λ j. first_key new (j ∷ js)) e ∙ go (keys_behind old (on.Either k))
      (keys_behind new (on.Either k)) (keys_moved old new h (on.Either k) (on.Either k) refl)
  key_behind old new h (on.Jump k) j is js e go = ap (λ j. first_key new (j ∷ js)) e ∙ go (keys_behind old (on.Jump k)) (keys_behind new (on.Jump k))
      (keys_moved old new h (on.Jump k) (on.Jump k) refl)
  key_behind old new h on.Proceed j is js e go = ap (λ j. first_key new (j ∷ js)) e ∙ go (keys_behind old on.Proceed) (keys_behind new on.Proceed) (keys_moved old new h on.Proceed on.Proceed refl)
  key_behind old new h on.Not j is js e go = ap (λ j. first_key new (j ∷ js)) e ∙ go (keys_behind old on.Not) (keys_behind new on.Not) (keys_moved old new h on.Not on.Not refl)
  key_behind old new h on.EndNot j is js e go = ap (λ j. first_key new (j ∷ js)) e ∙ go (keys_behind old on.EndNot) (keys_behind new on.EndNot) (keys_moved old new h on.EndNot on.EndNot refl)

  key_same : (old new : Keys) → AreMovedKeys old new → (is js : List Instr) → AllMoved m n is js → first_key new js ≡ option_map (moved_at g) (first_key old is)
  key_same old new h [] [] a = refl
  key_same old new h (i ∷ is) (j ∷ js) (x, a) = key_behind old new h i j is js x (λ old new h. key_same old new h is js a)
  key_same old new h [] (j ∷ js) a = absurd a
  key_same old new h (i ∷ is) [] a = absurd a

  constant_key : (c d k : ℕ) (us ts : List Ty) → k ≡ g c → nat_eq c d ≡ true → nat_eq k (g d) ≡ true
  constant_key c d k us ts e h = (λ z. nat_eq (e z) (g (sym (eqb-true c d h) z))) ∙ nat_eq_self (g c)

  abbrev plain_constant : PlainKey → ℕ
  plain_constant (plain.constant c) = c
  plain_constant k = 0

  abbrev plain_integer : ℤ → PlainKey → ℤ
  plain_integer z (plain.integer y) = y
  plain_integer z k = z

  abbrev plain_text : PlainKey → List ℕ
  plain_text (plain.text s) = s
  plain_text k = []

  abbrev KeyKept : Key → Key → Option Atom → Type 0
  KeyKept k l o = key_is k o ≡ true → key_is l (option_map (moved_at g) o) ≡ true

  key_kept : (k l : Key) → plain_key l ≡ moved_key m (plain_key k) → (o : Option Atom) → KeyKept k l o
  key_kept key.None (key.Const k) p o e = absurd (cc)
  key_kept key.None (key.Int w) p o e = absurd (cc)
  key_kept key.None (key.Text u) p o e = absurd (cc)
  key_kept key.None key.None p None e = refl
  key_kept key.None key.None p (Some (constant d ts)) e = absurd (let z : false ≡ true = e in cc)
  key_kept key.None key.None p (Some (integer y)) e = absurd (let z : false ≡ true = e in cc)
  key_kept key.None key.None p (Some (text t)) e = absurd (let z : false ≡ true = e in cc)
  key_kept key.None key.None p (Some (eigen x)) e = refl
  key_kept key.None key.None p (Some (logic x l)) e = absurd (let z : false ≡ true = e in cc)
  key_kept key.None key.None p (Some (param x T)) e = absurd (let z : false ≡ true = e in cc)
  key_kept (key.Const c) key.None p o e = absurd (cc)
  key_kept (key.Const c) (key.Int w) p o e = absurd (cc)
  key_kept (key.Const c) (key.Text u) p o e = absurd (cc)
  key_kept (key.Const c) (key.Const k) p None e = absurd (let z : false ≡ true = e in cc)
  key_kept (key.Const c) (key.Const k) p (Some (constant d ts)) e = constant_key c d k ts ts (ap plain_constant p) e
  key_kept (key.Const c) (key.Const k) p (Some (integer y)) e = absurd (let z : false ≡ true = e in cc)
  key_kept (key.Const c) (key.Const k) p (Some (text t)) e = absurd (let z : false ≡ true = e in cc)
  key_kept (key.Const c) (key.Const k) p (Some (eigen x)) e = absurd (let z : false ≡ true = e in cc)
  key_kept (key.Const c) (key.Const k) p (Some (logic x l)) e = absurd (let z : false ≡ true = e in cc)
  key_kept (key.Const c) (key.Const k) p (Some (param x T)) e = absurd (let z : false ≡ true = e in cc)
  key_kept (key.Int z) key.None p o e = absurd (cc)
  key_kept (key.Int z) (key.Const k) p o e = absurd (cc)
  key_kept (key.Int z) (key.Text u) p o e = absurd (cc)
  key_kept (key.Int z) (key.Int w) p None e = absurd (let z : false ≡ true = e in cc)
  key_kept (key.Int z) (key.Int w) p (Some (constant d ts)) e = absurd (let z : false ≡ true = e in cc)
  key_kept (key.Int z) (key.Int w) p (Some (integer y)) e = (λ v. int_le (ap (plain_integer z) p v) y && int_le y (ap (plain_integer z) p v)) ∙ e
  key_kept (key.Int z) (key.Int w) p (Some (text t)) e = absurd (let z : false ≡ true = e in cc)
  key_kept (key.Int z) (key.Int w) p (Some (eigen x)) e = absurd (let z : false ≡ true = e in cc)
  key_kept (key.Int z) (key.Int w) p (Some (logic x l)) e = absurd (let z : false ≡ true = e in cc)
  key_kept (key.Int z) (key.Int w) p (Some (param x T)) e = absurd (let z : false ≡ true = e in cc)
  key_kept (key.Text s) key.None p o e = absurd (cc)
  key_kept (key.Text s) (key.Const k) p o e = absurd (cc)
  key_kept (key.Text s) (key.Int w) p o e = absurd (cc)
  key_kept (key.Text s) (key.Text u) p None e = absurd (let z : false ≡ true = e in cc)
  key_kept (key.Text s) (key.Text u) p (Some (constant d ts)) e = absurd (let z : false ≡ true = e in cc)
  key_kept (key.Text s) (key.Text u) p (Some (integer y)) e = absurd (let z : false ≡ true = e in cc)
  key_kept (key.Text s) (key.Text u) p (Some (text t)) e = ap (λ v. bytes_eq v t) (ap plain_text p) ∙ e
  key_kept (key.Text s) (key.Text u) p (Some (eigen x)) e = absurd (let z : false ≡ true = e in cc)
  key_kept (key.Text s) (key.Text u) p (Some (logic x l)) e = absurd (let z : false ≡ true = e in cc)
  key_kept (key.Text s) (key.Text u) p (Some (param x T)) e = absurd (let z : false ≡ true = e in cc)

  -- the predicate of a clause
  o_kept : f 0 ≡ 0 → (T : Ty) → ends_in_o T ≡ true → ends_in_o (mapped_type m T) ≡ true
  o_kept p (arrow a b) e = o_kept p b e
  o_kept p (con zero ts) e = λ z. ends_in_o (con (p z) (Rattle.lp_term.specs.Mapped.mapped_types m ts))
  o_kept p (con (suc c) ts) e = absurd (let z : false ≡ true = e in cc)
  o_kept p (var i) e = absurd (let z : false ≡ true = e in cc)
  o_kept p (type_param k) e = absurd (let z : false ≡ true = e in cc)

  head_kept : f 0 ≡ 0 → (o : Option Scheme) → heads_clauses o ≡ true → heads_clauses (option_map (moved_scheme m) o) ≡ true
  head_kept p None e = absurd (let z : false ≡ true = e in cc)
  head_kept p (Some c) e = o_kept p c.body e

pub named_same : (f g : ℕ → ℕ) (n : ℕ) → KeepsStandard f g → (old new : Home) → IsMovedHome (moving f g n) n old new → is_named new ≡ is_named old
named_same f g n keeps old new along = (λ z. member ((along.number ∙ swapped) z) (named_before new.number new.records)) ∙ along.named old.number
  where
    swapped : old.number + n ≡ n + old.number
    swapped = omega arith

module _ (f g : ℕ → ℕ) (n : ℕ) (keeps : KeepsStandard f g) (old new : Home) (along : IsMovedHome (moving f g n) n old new) (s : State) where
  abbrev numbers : Map
  numbers = moving f g n

  abbrev rest : State
  rest = moved_state numbers n s

  declared_kept : (c : ℕ) → is_declared c ≡ true → is_declared (g c) ≡ true
  declared_kept c e =
      let l = leb-true 32 c e in
      let k = ltb-false (g c) 32 (keeps.declared c (le-ltb c 32 (omega (arith, l)))) in
      le-leb 32 (g c) (omega (arith, k))

  swapped : (a b : ℕ) → a + b ≡ b + a
  swapped a b = omega arith

  set_by_kept : (r h : ℕ) → sets_by_all (slice_get old.records h) r ≡ true → sets_by_all (slice_get new.records (h + n)) r ≡ true
  set_by_kept r h e = by (slice_get old.records h) refl e
    where
      by : (o : Option Record) → slice_get old.records h ≡ o → sets_by_all o r ≡ true → sets_by_all (slice_get new.records (h + n)) r ≡ true
      by None x e = absurd (let z : false ≡ true = e in cc)
      by (Some q) x e =
          let there = along.others h q x in
          ap (λ k. sets_by_all (slice_get new.records k) r) (swapped h n) ∙ ap (λ o. sets_by_all o r) there.1 ∙ set_same f g n r q.code.items there.0.code.items there.2.code ∙ e

  variable_kept : (t : Term) → is_all_variable old.records t ≡ true → is_all_variable new.records (mapped numbers t) ≡ true
  variable_kept (atom (logic r h)) e = set_by_kept r h e
  variable_kept (index i) e = absurd (let z : false ≡ true = e in cc)
  variable_kept (atom (constant c ts)) e = absurd (let z : false ≡ true = e in cc)
  variable_kept (atom (integer x)) e = absurd (let z : false ≡ true = e in cc)
  variable_kept (atom (text x)) e = absurd (let z : false ≡ true = e in cc)
  variable_kept (atom (eigen x)) e = absurd (let z : false ≡ true = e in cc)
  variable_kept (atom (param x T)) e = absurd (let z : false ≡ true = e in cc)
  variable_kept (abs b) e = absurd (let z : false ≡ true = e in cc)
  variable_kept (app t u) e = absurd (let z : false ≡ true = e in cc)

  heads_kept : (p : RecordHead) → heads old s p ≡ true → heads new rest (moved_head numbers p) ≡ true
  heads_kept (Const c) e =
      let declared = and_true_left (is_declared c) (heads_clauses (old.tables.constants c)) e in
      λ z. declared_kept c declared z
      && (ap heads_clauses (along.tables.constants c) ∙ head_kept f g n (keeps.kinds 0 refl) (old.tables.constants c) (and_true_right (is_declared c) (heads_clauses (old.tables.constants c)) e)) z
  heads_kept (Register r) e =
      let first = nat_lt r old.self.captured in
      let second = is_all_variable old.records (term_in s.now r).term in
      let third = ends_in_o (term_in s.now r).type in
      let both = and_true_left (first && second) third e in
      let there = term_same f g n keeps old new along s r in
      λ z. (ap (nat_lt r) along.self.captured ∙ and_true_left first second both) z
      && (ap (λ (b : Built). is_all_variable new.records b.term) there ∙ variable_kept (term_in s.now r).term (and_true_right first second both)) z
      && (ap (λ (b : Built). ends_in_o b.type) there ∙ o_kept f g n (keeps.kinds 0 refl) (term_in s.now r).type (and_true_right (first && second) third e)) z

  passes_kept : (t u : RecordHead → Bool) → ((p : RecordHead) → t p ≡ true → u (moved_head numbers p) ≡ true) → (o : Option RecordHead) → head_passes
      t o ≡ true → head_passes u (option_map (moved_head numbers) o) ≡ true
  passes_kept t u h None e = refl
  passes_kept t u h (Some p) e = h p e

  known_kept : (p : RecordHead) → is_known_head old p ≡ true → is_known_head new (moved_head numbers p) ≡ true
  known_kept (Const c) e = ap is_some (along.tables.constants c) ∙ is_some_mapped (moved_scheme numbers) (old.tables.constants c) ∙ e
  known_kept (Register r) e = refl

  whole_passes : (t u : RecordHead → Bool) → ((p : RecordHead) → t p ≡ true → u (moved_head numbers p) ≡ true) → not (head_passes t old.self.head) ≡ false → not (head_passes u new.self.head) ≡ false
  whole_passes t u h e = ap not (ap (head_passes u) along.self.head ∙ passes_kept t u h old.self.head (not-false (head_passes t old.self.head) e))

  right_key_kept : has_right_key old ≡ true → has_right_key new ≡ true
  right_key_kept e =
      (λ z. (ap is_none along.self.head ∙ is_none_mapped (moved_head numbers) old.self.head) z ||
      (if along.self.program z then key_is new.self.key (first_key (λ r. None) new.self.code.items) else key_is new.self.key None))
      ∙ by (is_none old.self.head) old.self.program e
    where
      by : (a p : Bool) → (a || (if p then key_is old.self.key (first_key (λ r. None) old.self.code.items) else key_is old.self.key None)) ≡ true
          → (a || (if p then key_is new.self.key (first_key (λ r. None) new.self.code.items) else key_is new.self.key None)) ≡ true
      by true p e = refl
      by false true e =
          ap (key_is new.self.key) (key_same f g n (λ r. None) (λ r. None) (λ r. refl) old.self.code.items new.self.code.items along.self.code)
          ∙ key_kept f g n old.self.key new.self.key along.self.key (first_key (λ r. None) old.self.code.items) e
      by false false e = key_kept f g n old.self.key new.self.key along.self.key None e

  clause_same : (if new.self.program then not (nat_eq (new.self.captured_types + new.self.captured) 0) else not (is_named new)) ≡
      (if old.self.program then not (nat_eq (old.self.captured_types + old.self.captured) 0) else not (is_named old))
  clause_same = λ z. if along.self.program z then not (nat_eq (along.self.captured_types z + along.self.captured z) 0) else not (named_same f g n keeps old new along z)

  pub whole_kept : (r : Rule) → broken_by_record old s r ≡ false → broken_by_record new rest r ≡ false
  whole_kept rule.Register e = (λ z. nat_lt (along.self.types z) (along.self.captured_types z) || nat_lt (along.self.registers z) (along.self.captured z)) ∙ e
  whole_kept rule.Constant e = whole_passes (is_known_head old) (is_known_head new) known_kept e
  whole_kept rule.Order e = ap not (neck_same f g n old.self.code.items new.self.code.items along.self.code) ∙ e
  whole_kept rule.Head e = whole_passes (heads old s) (heads new rest) heads_kept e
  whole_kept rule.Block e = ap not (end_same f g n old.self.code.items new.self.code.items along.self.code) ∙ e
  whole_kept rule.Clause e = clause_same ∙ e
  whole_kept rule.Key e = ap not (right_key_kept (not-false (has_right_key old) e))
  whole_kept rule.Unset e = refl
  whole_kept rule.Set e = refl
  whole_kept rule.Typing e = refl
  whole_kept rule.Index e = refl
  whole_kept rule.Term e = refl
