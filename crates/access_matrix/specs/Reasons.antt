-- Why a role reads of a table what it reads.
use Rattle.std.specs.Prelude.{ℕ, not, ◌&&◌, if◌then◌else◌, codes, List, [], ◌∷◌, ◌++◌, map, filter}
use Rattle.value.specs.Names.{Name}
use Rattle.row_objects.specs.Objects.{Policy, Table}
use Rattle.catalog.specs.Catalog.{Catalog, belongs, bypasses_rls, is_superuser}
use Rattle.access.specs.Access.{applies, granted}
use Rattle.access.specs.Needed.{select_any}
use Rattle.access_matrix.specs.declared.reasons.Reason.{Reason}
use Rattle.access_matrix.specs.declared.reasons.Reason.TheVariants.{NoGrant, Superuser, BypassRls, Owner, RowSecurityOff, Policies}

-- the role has SELECT on no part of the table; or else the first of these: it is a superuser, it has BYPASSRLS, it belongs to the
-- owner on whom row security is not forced, row security is off, or the policies decide
abbrev pub reason : Catalog → Name → Table → Reason
reason cat role t =
    if not (granted cat role (select_any t)) then NoGrant
    else if is_superuser cat role then Superuser
    else if bypasses_rls cat role then BypassRls
    else if belongs cat role t.owner && not t.forced then Owner
    else if not t.row_security then RowSecurityOff
    else Policies

-- ---- its words

-- names, with a comma and a space between them
abbrev pub joined : List Name → List ℕ
joined [] = []
joined (name ∷ []) = name
joined (name ∷ (next ∷ more)) = name ++ (codes ", " ++ joined (next ∷ more))

-- the name of a policy, and whether it is restrictive
abbrev pub policy_words : Policy → List ℕ
policy_words p = p.name ++ (if p.restrictive then codes " (restrictive)" else [])

-- of the policies that apply to the role
abbrev pub policies_words : List Policy → List ℕ
policies_words [] = codes "no policy"
policies_words (p ∷ ps) = codes "by " ++ joined (map policy_words (p ∷ ps))

abbrev pub words_of : Reason → List Policy → List ℕ
words_of NoGrant applying = codes "no grant"
words_of Superuser applying = codes "superuser"
words_of BypassRls applying = codes "BYPASSRLS"
words_of Owner applying = codes "owner"
words_of RowSecurityOff applying = codes "row security off"
words_of Policies applying = policies_words applying

-- the reason in words
abbrev pub reason_words : Catalog → Name → Table → List ℕ
reason_words cat role t = words_of (reason cat role t) (filter (applies cat role) t.policies)
