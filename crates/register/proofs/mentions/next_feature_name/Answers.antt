use Rattle.register.proofs.MentionLists.{no_feature, one-feature}
use Rattle.register.proofs.mentions.next_feature_name.Goals as goal

pub returns-in_default : goal.returns-in_default
returns-in_default c = no_feature _ _ c.requires c.in_default.ensures.p_value

pub returns : goal.returns
returns c = one-feature _ _ c.requires c.in-Ok.f c.in-Ok.ensures.p_value c.in-Ok.ensures.within c.in-Ok.ensures.length_prefixed
