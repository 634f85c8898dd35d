use Rattle.alias_ref.proofs.AliasChains.{set_led, led_nothing}
use Rattle.alias_ref.proofs.aliases.Aliases.lead.Goals as goal

pub returns-then-i-len : goal.returns-then-i-len
returns-then-i-len c = set_led c.args.self.now.targets.items c.args.i c.args.target

pub returns-else-i-len : goal.returns-else-i-len
returns-else-i-len c = led_nothing c.args.self.now.targets.items c.args.i c.args.target
