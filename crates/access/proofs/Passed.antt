-- The first privilege that is not granted, one privilege after another.
use Rattle.std.proofs.Common.{◌≡◌, ℕ, suc, ◌+◌, ◌<◌, true, false, List, length, map, get_or, drop, drop-cons, Option, Some, refl, sym, ◌∙◌, arith}
use Rattle.value.specs.Names.{Name}
use Rattle.catalog.specs.Catalog.{Catalog}
use Rattle.access.specs.Access.{RequiredPrivilege, denial, granted}

-- one that is granted is passed
pub passed : {X : Type 0} (cat : Catalog) (role : Name) (view : X → RequiredPrivilege) (xs : List X) (k : ℕ) (x : X) → k < length xs → x ≡ get_or xs k x → (all : Option RequiredPrivilege)
    → denial cat role (map view (drop k xs)) ≡ all → granted cat role (view x) ≡ true → denial cat role (map view (drop (k + 1) xs)) ≡ all
passed cat role view xs k x more is all so_far g =
    let q : k + 1 ≡ suc k = omega arith in
    let e : denial cat role (map view (drop k xs)) ≡ denial cat role (map view (drop (k + 1) xs)) = rw (q, drop-cons xs k x more, ← is, g) refl in
    sym e ∙ so_far

-- one that is not granted is the denial
pub missing : {X : Type 0} (cat : Catalog) (role : Name) (view : X → RequiredPrivilege) (xs : List X) (k : ℕ) (x : X) → k < length xs → x ≡ get_or xs k x → (all : Option RequiredPrivilege)
    → denial cat role (map view (drop k xs)) ≡ all → granted cat role (view x) ≡ false → Some (view x) ≡ all
missing cat role view xs k x more is all so_far g =
    let e : denial cat role (map view (drop k xs)) ≡ Some (view x) = rw (drop-cons xs k x more, ← is, g) refl in
    sym e ∙ so_far
