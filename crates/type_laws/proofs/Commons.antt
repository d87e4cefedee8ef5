-- The type that several types fit.
use Rattle.std.proofs.Common.{◌≡◌, ◌⊎◌, inl, inr, Bool, true, false, cond, All, List, [], ◌∷◌, map, Option, Some, None, IfSome, refl, sym, ap, ◌∙◌}
use Rattle.std.proofs.lemmas.List.Elements.{All-cons, All-head, All-nil, All-tail, All-weaker}
use Rattle.std.proofs.lemmas.Option.{IfSome_then}
use Rattle.value.specs.Datum.{Datum}
use Rattle.value.specs.declared.types.ColType.{ColType}
use Rattle.value.specs.declared.types.ColType.TheVariants.{Bigint}
use Rattle.typing.specs.Typing.{TypeOf, common, common_of_all, common_of, is_type, type_of}
use Rattle.type_laws.specs.Rules.{IsFitting, HasType}
use Rattle.type_laws.proofs.Fitting.{fits_both, fits_further, is_itself, same_type}

-- both fit the type, which is one of them
abbrev pub IsCommon : TypeOf → TypeOf → TypeOf → Type 0
IsCommon a b c = IsFitting a c × IsFitting b c × ((c ≡ a) ⊎ (c ≡ b))

pub common_fits : (a b : TypeOf) → IfSome (common a b) (IsCommon a b)
common_fits None b = (inl refl, inr refl, inr refl)
common_fits (Some a) None = (inr refl, inl refl, inl refl)
common_fits (Some a) (Some b) = go (is_type a b) (same_type a b)
  where
    go : (same : Bool) → (same ≡ true → a ≡ b) → IfSome (cond same (Some (Some a)) None) (IsCommon (Some a) (Some b))
    go true h = (inr refl, inr (ap Some (sym (h refl))), inl refl)
    go false h = tt

pub three_fit : (a b c : TypeOf) → IfSome (common_of (common a b) (Some c)) (λ d. IsFitting a d × IsFitting b d × IsFitting c d)
three_fit a b c = go (common a b) (common_fits a b)
  where
    go : (o : Option TypeOf) → IfSome o (IsCommon a b) → IfSome (common_of o (Some c)) (λ d. IsFitting a d × IsFitting b d × IsFitting c d)
    go None h = tt
    go (Some e) h = IfSome_then (common e c) (common_fits e c) (λ d p. (fits_further a e d h.0 p.0, fits_further b e d h.1 p.0, p.1))

-- two types that fit one have a type in common
abbrev pub HaveCommon : TypeOf → TypeOf → TypeOf → Type 0
HaveCommon a b t = (c : TypeOf) × (common a b ≡ Some c) × IsFitting c t × ((a ≡ t) ⊎ (b ≡ t) → c ≡ t)

same_common : (a b : ColType) → a ≡ b → common (Some a) (Some b) ≡ Some (Some a)
same_common a b e = ap (λ same. cond same (Some (Some a)) None) (ap (is_type a) (sym e) ∙ is_itself a)

pub have_common : (a b t : TypeOf) → IsFitting a t → IsFitting b t → HaveCommon a b t
have_common None b t h k = (b, refl, k, either_is)
  where
    either_is : (None ≡ t) ⊎ (b ≡ t) → b ≡ t
    either_is (inr e) = e
    either_is (inl e) = fits_both b t k (inl (sym e))
have_common (Some a) None t h k = (Some a, refl, h, either_is)
  where
    either_is : (Some a ≡ t) ⊎ (None ≡ t) → Some a ≡ t
    either_is (inl e) = e
    either_is (inr e) = fits_both (Some a) t h (inl (sym e))
have_common (Some a) (Some b) t (inl e) k = absurd (cc)
have_common (Some a) (Some b) t (inr e) (inl f) = absurd (cc)
have_common (Some a) (Some b) t (inr e) (inr f) = (Some a, same_common a b (cc), inr e, λ one. e)

-- a type of columns that the type fits
pub some_type : (c : TypeOf) → (t : ColType) × IsFitting c (Some t)
some_type None = (Bigint, inl refl)
some_type (Some t) = (t, inr refl)

-- ---- with values

values_fit : (values : List Datum) → IfSome (common_of_all (map type_of values)) (λ c. All (HasType c) values)
values_fit [] = All-nil (HasType None)
values_fit (value ∷ values) = go (common_of_all (map type_of values)) (values_fit values)
  where
    go : (o : Option TypeOf) → IfSome o (λ c. All (HasType c) values) → IfSome (common_of (Some (type_of value)) o) (λ c. All (HasType c) (value ∷ values))
    go None h = tt
    go (Some b) h =
        IfSome_then (common (type_of value) b) (common_fits (type_of value) b) (λ c p.
        All-cons (HasType c) value values p.0 (All-weaker (HasType b) (HasType c) (λ other q. fits_further (type_of other) b c q p.1) values h))

-- what a type and values have in common, they fit
pub all_fit : (a : TypeOf) (values : List Datum) → IfSome (common_of_all (a ∷ map type_of values)) (λ c. IsFitting a c × All (HasType c) values)
all_fit a values = go (common_of_all (map type_of values)) (values_fit values)
  where
    go : (o : Option TypeOf) → IfSome o (λ c. All (HasType c) values) → IfSome (common_of (Some a) o) (λ c. IsFitting a c × All (HasType c) values)
    go None h = tt
    go (Some b) h = IfSome_then (common a b) (common_fits a b) (λ c p. (p.0, All-weaker (HasType b) (HasType c) (λ other q. fits_further (type_of other) b c q p.1) values h))

values_have_common : (values : List Datum) (t : TypeOf) → All (HasType t) values → (c : TypeOf) × (common_of_all (map type_of values) ≡ Some c) × IsFitting c t
values_have_common [] t h = (None, refl, inl refl)
values_have_common (value ∷ values) t h =
    let rest = values_have_common values t (All-tail (HasType t) value values h) in
    let b = have_common (type_of value) rest.0 t (All-head (HasType t) value values h) rest.2 in
    (b.0, ap (common_of (Some (type_of value))) rest.1 ∙ b.1, b.2)

pub have_all_common : (a : TypeOf) (values : List Datum) (t : TypeOf) → IsFitting a t → All (HasType t) values → (c : TypeOf) × (common_of_all (a ∷ map type_of values) ≡ Some c)
have_all_common a values t h k =
    let rest = values_have_common values t k in
    let b = have_common a rest.0 t h rest.2 in
    (b.0, ap (common_of (Some a)) rest.1 ∙ b.1)
