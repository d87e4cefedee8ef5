use Rattle.catalog_laws.proofs.GrantLaws.{any_part, given, grants_after_grant, grants_after_revoke, grants_alone, kept}
use Rattle.catalog_laws.proofs.grants.law_grants.Goals as goal

pub returns : goal.returns
returns c = record { any_part = any_part; alone = grants_alone; grants_after_grant = grants_after_grant; given = given; grants_after_revoke = grants_after_revoke; kept = kept }
