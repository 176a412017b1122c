-- Why a text with conditions isn't whole.
use Rattle.line_store.specs.Store.{Seen, HasCause}
use Rattle.outside.specs.SinkView.{SinkView, Rises}
use Rattle.ifdef_out.specs.declared.IfdefFault.{IfdefFault}
use Rattle.ifdef_out.specs.declared.IfdefFault.TheVariants.{Line, Write}

-- what a fault says of the store and the sink before and after
abbrev pub HasIfdefCause : IfdefFault → Seen → Seen → SinkView → SinkView → Type 0
HasIfdefCause (Line e) before after old new = HasCause e before after
HasIfdefCause Write before after old new = Rises old new
