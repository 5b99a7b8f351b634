use Rattle.std.proofs.Common.{sym, refl}
use Rattle.types.proofs.Linking.{linked-one, linked-none}
use Rattle.types.proofs.link_member.Goals as goal

pub returns-in-Some : goal.returns-in-Some
returns-in-Some c = linked-one _ _ _ _ _ _ (sym c.in-Some.ensures.is) (c.link.ensures.links c.requires.few (c.in-Some.ensures.within _ refl)) c.link.ensures.parts c.link.ensures.count

pub returns-in_default : goal.returns-in_default
returns-in_default c = linked-none _ _ _ _ (sym c.in_default.ensures.is)
