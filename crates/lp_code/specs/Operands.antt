-- Which registers an instruction reads and sets.
use Rattle.std.specs.Prelude.{ℕ, List, [], ◌∷◌}
use Rattle.lp_code.specs.declared.instruction.Instr.{Instr}
use Rattle.lp_code.specs.declared.instruction.Instr.TheVariants.{TyCon, TyArr, TyNew, New, PutConst, PutInt, PutStr, PutIndex, PutAbs, PutApp, GetType, GetVar, Get, GetConst, Call, CallTerm, Equal, Is, Less, Greater, AtMost, AtLeast, Sigma, All, Assume}

abbrev pub types_read : Instr → List ℕ
types_read (TyCon d k ts) = ts.items
types_read (TyArr d a b) = a ∷ b ∷ []
types_read (New d t) = t ∷ []
types_read (PutConst d c ts) = ts.items
types_read (PutIndex d i t) = t ∷ []
types_read (PutAbs d s t) = t ∷ []
types_read (GetType j t) = t ∷ []
types_read (GetConst i c ts) = ts.items
types_read (Call c ts rs) = ts.items
types_read (Equal t l r) = t ∷ []
types_read (Is t l r) = t ∷ []
types_read (Sigma d t) = t ∷ []
types_read (All d t) = t ∷ []
types_read (Assume ns ts rs) = ts.items
types_read i = []

abbrev pub terms_read : Instr → List ℕ
terms_read (PutAbs d s t) = s ∷ []
terms_read (PutApp d s rs) = s ∷ rs.items
terms_read (Get i s) = s ∷ []
terms_read (Call c ts rs) = rs.items
terms_read (CallTerm s) = s ∷ []
terms_read (Equal t l r) = l ∷ r ∷ []
terms_read (Is t l r) = l ∷ r ∷ []
terms_read (Less l r) = l ∷ r ∷ []
terms_read (Greater l r) = l ∷ r ∷ []
terms_read (AtMost l r) = l ∷ r ∷ []
terms_read (AtLeast l r) = l ∷ r ∷ []
terms_read (Assume ns ts rs) = rs.items
terms_read i = []

abbrev pub type_set : Instr → List ℕ
type_set (TyCon d k ts) = d ∷ []
type_set (TyArr d a b) = d ∷ []
type_set (TyNew d) = d ∷ []
type_set i = []

-- the variables that the clause itself makes
abbrev pub own_set : Instr → List ℕ
own_set (New d t) = d ∷ []
own_set (GetVar i d) = d ∷ []
own_set i = []

abbrev pub term_set : Instr → List ℕ
term_set (New d t) = d ∷ []
term_set (PutConst d c ts) = d ∷ []
term_set (PutInt d z) = d ∷ []
term_set (PutStr d s) = d ∷ []
term_set (PutIndex d i t) = d ∷ []
term_set (PutAbs d s t) = d ∷ []
term_set (PutApp d s rs) = d ∷ []
term_set (GetVar i d) = d ∷ []
term_set (Sigma d t) = d ∷ []
term_set (All d t) = d ∷ []
term_set i = []
