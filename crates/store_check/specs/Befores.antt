-- What is known of the key before a block, as the definitions say it.
use Rattle.image_model.specs.Findings.{AtLeast, Before, Behind, Unknown}
use Rattle.store_check.specs.declared.before.Before.{Before as Known}
use Rattle.store_check.specs.declared.before.Before.TheVariants as known

abbrev pub before_of : Known → Before
before_of (known.AtLeast least) = AtLeast least.items
before_of known.Unknown = Unknown
before_of (known.After last) = Behind last.items
